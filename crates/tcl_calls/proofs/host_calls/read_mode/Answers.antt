use Rattle.std.proofs.Common.{sym, ap, ◌∙◌}
use Rattle.tcl_core.specs.Endings.Reply.{Completed}
use Rattle.tcl_core.specs.Paths.{Text}
use Rattle.tcl_host.specs.Modes.{mode_of}
use Rattle.tcl_language.specs.Hosting.{bad_mode}
use Rattle.tcl_run.specs.Ends.{failing}
use Rattle.tcl_run.proofs.Endings.{Interrupts-more}
use Rattle.tcl_calls.proofs.Hosted.{mode_is, mode_is_none}
use Rattle.tcl_calls.proofs.host_calls.read_mode.Goals as goal

pub returns-in-Ok : goal.returns-in-Ok
returns-in-Ok c = mode_is c.args.word.now c.in-Ok.mode (ap mode_of (sym c.as_str.ensures) ∙ sym c.in-Ok.ensures)

pub returns-in-Err : goal.returns-in-Err
returns-in-Err c =
    let none = mode_is_none c.args.word.now c.in-Err.bad (ap mode_of (sym c.as_str.ensures) ∙ sym c.in-Err.ensures) in
    Interrupts-more c.mode_failure.result _ _ (λ e h. (none, h ∙ ap (λ (x : Text). Completed (failing (bad_mode x))) c.as_str-in-Err.ensures)) c.mode_failure.ensures
