use Rattle.std.proofs.Common.{ap}
use Rattle.tcl_host.specs.declared.reply.HostReply.{HostReply}
use Rattle.tcl_language.specs.Hosting.{refusal_message}
use Rattle.tcl_language.specs.Sourcing as sourcing
use Rattle.tcl_run.specs.Ends.{failing}
use Rattle.tcl_run.specs.Outsides.{number_of, reply_of}
use Rattle.tcl_calls.proofs.Hosted.{over_err}
use Rattle.tcl_calls.proofs.files.opened_channel.Goals as goal

pub returns-in-Opened : goal.returns-in-Opened
returns-in-Opened c = ap (λ (r : HostReply). sourcing.script_opened c.args.file.now (reply_of r)) c.in-Opened.is

pub returns-in-Refused : goal.returns-in-Refused
returns-in-Refused c = over_err (sourcing.script_opened c.args.file.now (reply_of c.args.reply)) (failing (refusal_message (number_of c.in-Refused.why) c.args.file.now)) c.refused_by_host.result (ap (λ (r : HostReply). sourcing.script_opened c.args.file.now (reply_of r)) c.in-Refused.is) c.refused_by_host.ensures
