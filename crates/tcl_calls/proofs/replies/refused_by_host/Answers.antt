use Rattle.std.proofs.Common.{ap, ◌∙◌}
use Rattle.tcl_core.specs.Endings.Reply.{Completed}
use Rattle.tcl_core.specs.Paths.{Text}
use Rattle.tcl_host.specs.Replies.{refusal_text}
use Rattle.tcl_run.specs.Ends.{failing}
use Rattle.tcl_run.proofs.Endings.{Interrupts-more}
use Rattle.tcl_calls.proofs.Hosted.{refusal_is}
use Rattle.tcl_calls.proofs.replies.refused_by_host.Goals as goal

pub returns-in-Ok : goal.returns-in-Ok
returns-in-Ok c =
    let text = c.in-Ok.ensures ∙ ap (refusal_text c.args.why) c.as_str.ensures ∙ refusal_is c.args.why c.args.name.now in
    Interrupts-more c.failure.result _ _ (λ e h. h ∙ ap (λ (x : Text). Completed (failing x)) text) c.failure.ensures
