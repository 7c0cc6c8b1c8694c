use Rattle.std.proofs.Common.{◌∙◌, ◌<◌, length, ap, sym, arith}
use Rattle.std.proofs.Common.{Bor}
use Rattle.tcl_parser.specs.declared.script.Word.{Word}
use Rattle.std.proofs.lemmas.Bool.Decides.{nat_tests}
use Rattle.std.proofs.lemmas.Result.{err_from_is_err_and}
use Rattle.tcl_expression_evaluation.specs.Computations.{value}
use Rattle.tcl_expression_evaluation.proofs.Going.{done_at, done_past, acts_some, acts_none, acts_error}
use Rattle.tcl_expression_evaluation.proofs.evaluation.Evaluation.run.Goals as goal

pub returns-in_err-operand-clause-computes : goal.returns-in_err-operand-clause-computes
returns-in_err-operand-clause-computes c =
    let l = c.in-Some.ensures.lookup.0 in
    let within : c.steps.self.next < length c.args.nodes.now = grind (arith, nat_tests) in
    let p = err_from_is_err_and c.from_residual.result c.from_residual.ensures.1 in
    rw (p.1, p.2) (acts_error {W = Bor Word} (λ w. w.now) c.in_err-operand.field-0.0 _ _ _ _ _ (c.steps.invariant.same ∙ done_at c.args.style c.args.nodes.now c.steps.self.next c.in-Some.node.now c.steps.self.values.items within c.in-Some.ensures.lookup.1) c.in_err-operand.ensures.acts)

pub returns-in-Some-2-clause-computes : goal.returns-in-Some-2-clause-computes
returns-in-Some-2-clause-computes c =
    let l = c.in-Some.ensures.lookup.0 in
    let within : c.steps.self.next < length c.args.nodes.now = grind (arith, nat_tests) in
    c.steps.invariant.same ∙ done_at c.args.style c.args.nodes.now c.steps.self.next c.in-Some.node.now c.steps.self.values.items within c.in-Some.ensures.lookup.1 ∙ acts_some _ c.in_ok-operand.field-0 c.in-Some-2.operand _ _ _ c.in-Some-2.is c.in_ok-operand.ensures.acts

pub steps-smaller : goal.steps-smaller
steps-smaller c =
    let l = c.in-Some.ensures.lookup.0 in
    let within : c.steps.self.next < length c.args.nodes.now = grind (arith, nat_tests) in
    omega (arith, within, c.act.ensures.later)

pub steps-preserved : goal.steps-preserved
steps-preserved c =
    let l = c.in-Some.ensures.lookup.0 in
    let within : c.steps.self.next < length c.args.nodes.now = grind (arith, nat_tests) in
    record { same = c.steps.invariant.same ∙ done_at c.args.style c.args.nodes.now c.steps.self.next c.in-Some.node.now c.steps.self.values.items within c.in-Some.ensures.lookup.1 ∙ acts_none _ c.in_ok-operand.field-0 _ _ _ c.in_default-2.is c.in_ok-operand.ensures.acts; later = omega (arith, c.act.ensures.later, c.steps.invariant.later) }

pub returns-in-Some-2-clause-nearer : goal.returns-in-Some-2-clause-nearer
returns-in-Some-2-clause-nearer c =
    let l = c.in-Some.ensures.lookup.0 in
    let within : c.steps.self.next < length c.args.nodes.now = grind (arith, nat_tests) in
    omega (arith, within, c.act.ensures.later, c.steps.invariant.later)

pub returns-in_err-operand-clause-nearer : goal.returns-in_err-operand-clause-nearer
returns-in_err-operand-clause-nearer c =
    let p = err_from_is_err_and c.from_residual.result c.from_residual.ensures.1 in
    rw p.1 tt

pub returns-clause-computes : goal.returns-clause-computes
returns-clause-computes c = c.steps.invariant.same ∙ done_past c.args.style c.args.nodes.now c.steps.self.next c.steps.self.values.items c.in_default.ensures.lookup.3 ∙ ap value (sym c.take.ensures.value)
