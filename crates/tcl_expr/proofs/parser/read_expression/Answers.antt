use Rattle.std.proofs.Common.{◌∙◌, ◌+◌, ◌-◌, length, ap, subst, Ok, arith, rules}
use Rattle.std.proofs.lemmas.Result.{err_from_is_err_and}
use Rattle.tcl_expr.specs.Views.{lexed_of}
use Rattle.tcl_expr.specs.Parsing.{Keeps}
use Rattle.tcl_expr.proofs.Readings.{starts, spent, at_end, at_error, at_misfit, at_token, none_left, counted, marked}
use Rattle.tcl_expr.proofs.Rests.{rest_is_shorter}
use Rattle.tcl_expr.proofs.parser.read_expression.Goals as goal

pub tokens-init : goal.tokens-init
tokens-init c = record {
  utf8 = search rules;
  within = omega arith;
  reads = starts c.args.style (length c.args.text.now + 1) c.args.text.now _ _ _ (omega arith) c.new-parser.ensures;
}

pub returns-in_err-next_token : goal.returns-in_err-next_token
returns-in_err-next_token c =
    let p = err_from_is_err_and c.from_residual.result c.from_residual.ensures.1 in
    rw (p.1, p.2) (at_error c.args.style (c.tokens.left - 1) c.tokens.minus c.tokens.rest.now c.tokens.parser.nodes.items c.tokens.parser.pending.items c.tokens.parser.depth c.tokens.mode _ _ (counted c.args.style c.tokens.left c.tokens.minus c.tokens.rest.now c.tokens.parser.nodes.items c.tokens.parser.pending.items c.tokens.parser.depth c.tokens.mode _ c.tokens-test.true c.tokens.invariant.reads) c.in_err-next_token.ensures)

pub returns-in-Ended : goal.returns-in-Ended
returns-in-Ended c =
    let e = at_end c.args.style (c.tokens.left - 1) c.tokens.minus c.tokens.rest.now c.tokens.parser.nodes.items c.tokens.parser.pending.items c.tokens.parser.depth c.tokens.mode _ (counted c.args.style c.tokens.left c.tokens.minus c.tokens.rest.now c.tokens.parser.nodes.items c.tokens.parser.pending.items c.tokens.parser.depth c.tokens.mode _ c.tokens-test.true c.tokens.invariant.reads) (c.in_ok-next_token.ensures ∙ ap (λ x. Ok (lexed_of x)) c.in-Ended.is) in
    subst (Keeps c.finish.result) e.2 (c.finish.ensures e.0 e.1)

pub returns-in_err-mode-in-Read : goal.returns-in_err-mode-in-Read
returns-in_err-mode-in-Read c =
    let p = err_from_is_err_and c.from_residual-in_err-mode-in-Read.result c.from_residual-in_err-mode-in-Read.ensures.1 in
    rw (p.1, p.2) (at_misfit c.args.style (c.tokens.left - 1) c.tokens.minus c.tokens.rest.now c.in-Read.after.now c.in-Read.token _ c.step.new.self.nodes.items _ c.step.new.self.pending.items _ c.step.new.self.depth c.tokens.mode _ _ (counted c.args.style c.tokens.left c.tokens.minus c.tokens.rest.now c.tokens.parser.nodes.items c.tokens.parser.pending.items c.tokens.parser.depth c.tokens.mode _ c.tokens-test.true c.tokens.invariant.reads) (c.in_ok-next_token.ensures ∙ ap (λ x. Ok (lexed_of x)) c.in-Read.is) c.in_err-mode-in-Read.ensures)

pub tokens-preserved : goal.tokens-preserved
tokens-preserved c = record {
  utf8 = search rules;
  within = omega (arith, rest_is_shorter c.args.style c.tokens.minus c.tokens.rest.now c.in-Read.token c.in-Read.after.now (c.in_ok-next_token.ensures ∙ ap (λ x. Ok (lexed_of x)) c.in-Read.is), c.tokens.invariant.within);
  reads = marked c.args.style (c.tokens.left - 1) c.in-Read.token c.is_minus-minus.result c.in-Read.after.now _ _ _ _ _ c.is_minus-minus.ensures (at_token c.args.style (c.tokens.left - 1) c.tokens.minus c.tokens.rest.now c.in-Read.after.now c.in-Read.token _ c.step.new.self.nodes.items _ c.step.new.self.pending.items _ c.step.new.self.depth c.tokens.mode _ _ (counted c.args.style c.tokens.left c.tokens.minus c.tokens.rest.now c.tokens.parser.nodes.items c.tokens.parser.pending.items c.tokens.parser.depth c.tokens.mode _ c.tokens-test.true c.tokens.invariant.reads) (c.in_ok-next_token.ensures ∙ ap (λ x. Ok (lexed_of x)) c.in-Read.is) c.in_ok-mode-in-Read.ensures);
}

pub returns : goal.returns
returns c =
    let e = spent c.args.style c.tokens.left c.tokens.minus c.tokens.rest.now c.tokens.parser.nodes.items c.tokens.parser.pending.items c.tokens.parser.depth c.tokens.mode _ (none_left c.tokens.left c.tokens-test.false) c.tokens.invariant.reads in
    subst (Keeps c.finish-2.result) e.2 (c.finish-2.ensures e.0 e.1)
