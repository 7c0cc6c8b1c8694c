use Rattle.std.proofs.Common.{ap}
use Rattle.tcl_host.specs.declared.reply.HostReply.{HostReply}
use Rattle.tcl_language.specs.Hosting.{opened, refusal_message}
use Rattle.tcl_language.specs.Instructions.{gives}
use Rattle.tcl_run.specs.Ends.{failing}
use Rattle.tcl_run.specs.Outsides.{number_of, reply_of}
use Rattle.tcl_calls.proofs.Hosted.{ends_as, gives_nothing, no_channel, over_err}
use Rattle.tcl_calls.proofs.replies.opened.Goals as goal

pub returns-in-Opened : goal.returns-in-Opened
returns-in-Opened c = ends_as (opened c.args.file.now (reply_of c.args.reply)) (gives c.in-Opened.channel) c.value_of.result (ap (λ (r : HostReply). opened c.args.file.now (reply_of r)) c.in-Opened.is) c.value_of.ensures

pub returns-in-Refused : goal.returns-in-Refused
returns-in-Refused c = over_err (opened c.args.file.now (reply_of c.args.reply)) (failing (refusal_message (number_of c.in-Refused.why) c.args.file.now)) c.refused_by_host.result (ap (λ (r : HostReply). opened c.args.file.now (reply_of r)) c.in-Refused.is) c.refused_by_host.ensures

pub returns-in_default : goal.returns-in_default
returns-in_default c = gives_nothing (opened c.args.file.now (reply_of c.args.reply)) c.empty.result (no_channel c.args.file.now c.args.reply c.in_default.not-Opened c.in_default.not-Refused) c.empty.ensures
