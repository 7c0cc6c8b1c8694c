use Rattle.std.proofs.Common.{◌∙◌}
use Rattle.tcl_run.proofs.Endings.{Interrupts-more}
use Rattle.tcl_calls.specs.Switching.{manner_of}
use Rattle.tcl_calls.proofs.Choosing.{among_even, among_odd}
use Rattle.tcl_calls.proofs.switching.among.Goals as goal

pub returns-then-pairs-eq1 : goal.returns-then-pairs-eq1
returns-then-pairs-eq1 c = Interrupts-more c.wrong_args.result _ _ (λ e h. among_odd (manner_of c.args.manner) c.args.string.now c.args.pairs.now e c.if-pairs-eq1.true h) c.wrong_args.ensures

pub returns : goal.returns
returns c =
    among_even (manner_of c.args.manner) c.args.string.now c.as_str.result.now c.args.pairs.now c.in_ok-own_body.field-0 (λ h. c.if-pairs-eq1.false h) (c.as_str.ensures ∙ c.in_ok-string.ensures) (c.in_ok-own_body.ensures ∙ c.in_ok-body.ensures)
