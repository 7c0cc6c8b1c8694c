use Rattle.std.proofs.Common.{ap}
use Rattle.tcl_host.specs.declared.reply.HostReply.{HostReply}
use Rattle.tcl_language.specs.Hosting.{accepted, refusal_message}
use Rattle.tcl_run.specs.Ends.{failing}
use Rattle.tcl_run.specs.Outsides.{number_of, reply_of}
use Rattle.tcl_calls.proofs.Hosted.{gives_nothing, is_accepted, over_err}
use Rattle.tcl_calls.proofs.replies.accepted.Goals as goal

pub returns-in-Refused : goal.returns-in-Refused
returns-in-Refused c = over_err (accepted c.args.channel.now (reply_of c.args.reply.now)) (failing (refusal_message (number_of c.in-Refused.why) c.args.channel.now)) c.refused_by_host.result (ap (λ (r : HostReply). accepted c.args.channel.now (reply_of r)) c.in-Refused.is) c.refused_by_host.ensures

pub returns-in_default : goal.returns-in_default
returns-in_default c = gives_nothing (accepted c.args.channel.now (reply_of c.args.reply.now)) c.empty.result (is_accepted c.args.channel.now c.args.reply.now c.in_default.not-Refused) c.empty.ensures
