use Rattle.std.proofs.Common.{true, false, sym, ◌∙◌, arith}
use Rattle.tcl_language.specs.Switching.{is_fit}
use Rattle.tcl_calls.specs.Switching.{manner_of}
use Rattle.tcl_calls.proofs.Choosing.{chosen_none, chosen_on, first_left}
use Rattle.tcl_calls.proofs.switching.first_taken.Goals as goal

pub returns-then-branch : goal.returns-then-branch
returns-then-branch c =
    let two = first_left c.pairs.left.now c.pattern-item.result c.in-len2-up.len_at_least c.pattern-item.is in
    c.first_body.ensures ∙ sym (c.pairs.invariant ∙ chosen_on (is_fit (manner_of c.args.manner) c.args.string.now) c.pairs.left.now c.pattern-item.result two.0 _ true two.1 (sym c.if-branch.true ∙ c.in_ok-takes.ensures))

pub pairs-preserved : goal.pairs-preserved
pairs-preserved c =
    let two = first_left c.pairs.left.now c.pattern-item.result c.in-len2-up.len_at_least c.pattern-item.is in
    c.pairs.invariant ∙ chosen_on (is_fit (manner_of c.args.manner) c.args.string.now) c.pairs.left.now c.pattern-item.result two.0 _ false two.1 (sym c.if-branch.false ∙ c.in_ok-takes.ensures)

pub returns : goal.returns
returns c = sym (c.pairs.invariant ∙ chosen_none (is_fit (manner_of c.args.manner) c.args.string.now) c.pairs.left.now (omega arith))
