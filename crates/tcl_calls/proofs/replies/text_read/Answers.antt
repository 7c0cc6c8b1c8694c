use Rattle.std.proofs.Common.{ap}
use Rattle.tcl_host.specs.declared.reply.HostReply.{HostReply}
use Rattle.tcl_language.specs.Hosting.{gives_text, read_from, refusal_message, text_read}
use Rattle.tcl_run.specs.Ends.{failing}
use Rattle.tcl_run.specs.Outsides.{number_of, reply_of}
use Rattle.tcl_calls.proofs.Hosted.{ends_as, gives_nothing, not_read, over_err, read_ends}
use Rattle.tcl_calls.proofs.replies.text_read.Goals as goal

pub returns-in-Line : goal.returns-in-Line
returns-in-Line c =
    ends_as (text_read c.args.channel.now (reply_of c.args.reply)) (read_from c.args.channel.now c.in-Line.bytes gives_text) c.value_read.result (ap (λ (r : HostReply). text_read c.args.channel.now (reply_of r)) c.in-Line.is)
    (read_ends c.args.channel.now c.in-Line.bytes c.value_read.result c.value_read.ensures)

pub returns-in-Rest : goal.returns-in-Rest
returns-in-Rest c =
    ends_as (text_read c.args.channel.now (reply_of c.args.reply)) (read_from c.args.channel.now c.in-Rest.bytes gives_text) c.value_read-in-Rest.result (ap (λ (r : HostReply). text_read c.args.channel.now (reply_of r)) c.in-Rest.is)
    (read_ends c.args.channel.now c.in-Rest.bytes c.value_read-in-Rest.result c.value_read-in-Rest.ensures)

pub returns-in-Refused : goal.returns-in-Refused
returns-in-Refused c = over_err (text_read c.args.channel.now (reply_of c.args.reply)) (failing (refusal_message (number_of c.in-Refused.why) c.args.channel.now)) c.refused_by_host.result (ap (λ (r : HostReply). text_read c.args.channel.now (reply_of r)) c.in-Refused.is) c.refused_by_host.ensures

pub returns-in_default : goal.returns-in_default
returns-in_default c = gives_nothing (text_read c.args.channel.now (reply_of c.args.reply)) c.empty.result (not_read c.args.channel.now c.args.reply c.in_default.not-Line c.in_default.not-Rest c.in_default.not-Refused) c.empty.ensures
