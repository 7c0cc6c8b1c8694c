use Rattle.std.proofs.Common.{ap, ◌∙◌}
use Rattle.tcl_core.specs.Endings.Reply.{Completed}
use Rattle.tcl_core.specs.Paths.{Text}
use Rattle.tcl_run.specs.Ends.{failing}
use Rattle.tcl_run.proofs.Endings.{Interrupts-more}
use Rattle.tcl_calls.proofs.Hosted.{bad_mode_is}
use Rattle.tcl_calls.proofs.host_calls.mode_failure.Goals as goal

pub returns-in-Ok : goal.returns-in-Ok
returns-in-Ok c = Interrupts-more c.failure.result _ _ (λ e h. h ∙ ap (λ (x : Text). Completed (failing x)) (c.in-Ok.ensures ∙ bad_mode_is c.args.word.now)) c.failure.ensures
