use Rattle.std.proofs.Common.{ap}
use Rattle.tcl_core.specs.Entries.HostReply.{TheRest}
use Rattle.tcl_host.specs.declared.reply.HostReply.{HostReply}
use Rattle.tcl_language.specs.Hosting.{refusal_message}
use Rattle.tcl_language.specs.Sourcing as sourcing
use Rattle.tcl_run.specs.Ends.{failing}
use Rattle.tcl_run.specs.Outsides.{number_of, reply_of}
use Rattle.tcl_calls.proofs.Hosted.{over_err, script_as}
use Rattle.tcl_calls.proofs.files.script_of_file.Goals as goal

pub returns-in-Rest : goal.returns-in-Rest
returns-in-Rest c =
    script_as (sourcing.closed c.args.file.now (reply_of c.args.read) (reply_of c.args.closed.now)) (sourcing.closed c.args.file.now (TheRest c.in-Rest.bytes) (reply_of c.args.closed.now)) c.closed_behind.result (ap (λ (r : HostReply). sourcing.closed c.args.file.now (reply_of r) (reply_of c.args.closed.now)) c.in-Rest.is) c.closed_behind.ensures

pub returns-in-Refused : goal.returns-in-Refused
returns-in-Refused c = over_err (sourcing.closed c.args.file.now (reply_of c.args.read) (reply_of c.args.closed.now)) (failing (refusal_message (number_of c.in-Refused.why) c.args.file.now)) c.refused_by_host.result (ap (λ (r : HostReply). sourcing.closed c.args.file.now (reply_of r) (reply_of c.args.closed.now)) c.in-Refused.is) c.refused_by_host.ensures
