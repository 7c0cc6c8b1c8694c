use Rattle.std.proofs.Common.{ap}
use Rattle.tcl_core.specs.Entries.HostReply.{TheRest}
use Rattle.tcl_host.specs.declared.reply.HostReply.{HostReply}
use Rattle.tcl_language.specs.Hosting.{read_from, refusal_message}
use Rattle.tcl_language.specs.Sourcing as sourcing
use Rattle.tcl_run.specs.Ends.{failing}
use Rattle.tcl_run.specs.Outsides.{number_of, reply_of}
use Rattle.tcl_calls.proofs.Hosted.{is_closed, over_err, read_is, script_as}
use Rattle.tcl_calls.proofs.files.closed_behind.Goals as goal

pub returns-in-Refused : goal.returns-in-Refused
returns-in-Refused c = over_err (sourcing.closed c.args.file.now (TheRest c.args.bytes) (reply_of c.args.closed.now)) (failing (refusal_message (number_of c.in-Refused.why) c.args.file.now)) c.refused_by_host.result (ap (λ (r : HostReply). sourcing.closed c.args.file.now (TheRest c.args.bytes) (reply_of r)) c.in-Refused.is) c.refused_by_host.ensures

pub returns-in_default : goal.returns-in_default
returns-in_default c =
    script_as (sourcing.closed c.args.file.now (TheRest c.args.bytes) (reply_of c.args.closed.now)) (read_from c.args.file.now c.args.bytes sourcing.evaluates_file) c.value_read.result (is_closed c.args.file.now c.args.bytes c.args.closed.now c.in_default.not-Refused)
    (read_is c.args.file.now c.args.bytes c.value_read.result c.value_read.ensures)
