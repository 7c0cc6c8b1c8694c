use Rattle.std.proofs.Common.{ap}
use Rattle.tcl_host.specs.declared.reply.HostReply.{HostReply}
use Rattle.tcl_language.specs.Hosting.{at_end, refusal_message, truth}
use Rattle.tcl_core.specs.Endings.{ok}
use Rattle.tcl_core.specs.Endings.Reply.{Completed}
use Rattle.tcl_core.specs.Paths.{Text}
use Rattle.tcl_run.specs.Ends.{failing}
use Rattle.tcl_run.specs.Outsides.{number_of, reply_of}
use Rattle.tcl_calls.proofs.Hosted.{gives_nothing, not_told, over_by, over_err}
use Rattle.tcl_calls.proofs.replies.at_end.Goals as goal

pub returns-in-AtEnd : goal.returns-in-AtEnd
returns-in-AtEnd c = over_by (at_end c.args.channel.now (reply_of c.args.reply.now)) (ok (truth c.in-AtEnd.ended)) _ (ap (λ (r : HostReply). at_end c.args.channel.now (reply_of r)) c.in-AtEnd.is) (ap (λ (x : Text). Completed (ok x)) c.truth_value.ensures)

pub returns-in-Refused : goal.returns-in-Refused
returns-in-Refused c = over_err (at_end c.args.channel.now (reply_of c.args.reply.now)) (failing (refusal_message (number_of c.in-Refused.why) c.args.channel.now)) c.refused_by_host.result (ap (λ (r : HostReply). at_end c.args.channel.now (reply_of r)) c.in-Refused.is) c.refused_by_host.ensures

pub returns-in_default : goal.returns-in_default
returns-in_default c = gives_nothing (at_end c.args.channel.now (reply_of c.args.reply.now)) c.empty.result (not_told c.args.channel.now c.args.reply.now c.in_default.not-AtEnd c.in_default.not-Refused) c.empty.ensures
