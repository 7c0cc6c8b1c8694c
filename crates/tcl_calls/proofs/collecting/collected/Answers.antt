use Rattle.std.proofs.Common.{ap}
use Rattle.std.specs.Prelude.{Err}
use Rattle.tcl_run.proofs.Endings.{Interrupts-more}
use Rattle.tcl_calls.proofs.Gathering.{given_long, given_whole}
use Rattle.tcl_calls.proofs.collecting.collected.Goals as goal

pub returns-in-Ok : goal.returns-in-Ok
returns-in-Ok c = given_whole c.args.made c.in-Ok.value c.in-Ok.ensures.made.0 c.in-Ok.ensures.made.1

pub returns-in-Err-TooLong : goal.returns-in-Err-TooLong
returns-in-Err-TooLong c =
    let past = c.in-Err-TooLong.ensures.refused.0 (ap Err c.in-Err-TooLong.field-0-is) in
    Interrupts-more c.too_long.result _ _ (λ e h. given_long c.args.made e past h) c.too_long.ensures
