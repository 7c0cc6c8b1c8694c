use Rattle.std.proofs.Common.{◌≡◌, ◌<◌, ◌+◌, ◌*◌, true, false, Option, drop, length, length-drop, sym, ◌∙◌, subst, arith}
use Rattle.std.specs.Prelude.{IfOk}
use Rattle.tcl_core.specs.Paths.{Text}
use Rattle.tcl_language.specs.Switching.{is_fit}
use Rattle.tcl_calls.specs.Switching.{manner_of}
use Rattle.tcl_calls.proofs.Choosing.{chosen_at, chosen_none}
use Rattle.tcl_calls.proofs.switching.first_taken_in.Goals as goal

pub returns-then-branch : goal.returns-then-branch
returns-then-branch c =
    let within : 2 * c.pairs.pair + 1 < length c.args.pairs.now = omega (arith, c.pairs-test.true, c.len-pair-end.ensures) in
    let taken = c.pairs.invariant ∙ chosen_at (is_fit (manner_of c.args.manner) c.args.string.now) c.args.pairs.now c.pairs.pair true within (sym c.if-branch.true ∙ c.in_ok-takes_at.ensures) in
    subst (λ (chosen : Option Text). IfOk c.first_body_from.result (λ body. body ≡ chosen)) (sym taken) c.first_body_from.ensures

pub pairs-preserved : goal.pairs-preserved
pairs-preserved c =
    let within : 2 * c.pairs.pair + 1 < length c.args.pairs.now = omega (arith, c.pairs-test.true, c.len-pair-end.ensures) in
    c.pairs.invariant ∙ chosen_at (is_fit (manner_of c.args.manner) c.args.string.now) c.args.pairs.now c.pairs.pair false within (sym c.if-branch.false ∙ c.in_ok-takes_at.ensures)

pub returns : goal.returns
returns c =
    let left = length-drop (2 * c.pairs.pair) c.args.pairs.now in
    sym (c.pairs.invariant ∙ chosen_none (is_fit (manner_of c.args.manner) c.args.string.now) (drop (2 * c.pairs.pair) c.args.pairs.now) (omega (arith, left, c.pairs-test.false, c.len-pair-end.ensures)))
