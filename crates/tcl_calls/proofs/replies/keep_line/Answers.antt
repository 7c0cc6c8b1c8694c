use Rattle.std.proofs.Common.{ap, sym, ◌∙◌}
use Rattle.tcl_core.specs.Endings.{ok}
use Rattle.tcl_core.specs.Programs.Prog.{done}
use Rattle.tcl_host.specs.declared.reply.HostReply.{HostReply}
use Rattle.tcl_language.specs.Hosting.{keeps_line, line_read, read_from, refusal_message}
use Rattle.tcl_language.specs.Variables.{sets}
use Rattle.tcl_run.specs.Ends.{failing}
use Rattle.tcl_run.specs.Outsides.{number_of, reply_of}
use Rattle.tcl_calls.proofs.Hosted.{acts_as, gives_nothing, minus_one, not_kept, over_acts, over_err}
use Rattle.std.specs.Prelude.{Ok, Err}
use Rattle.tcl_calls.proofs.replies.keep_line.Goals as goal

pub returns-in-Line-clause-acts : goal.returns-in-Line-clause-acts
returns-in-Line-clause-acts c =
    acts_as c.args.tree.now c.keep_bytes.new.tree c.args.place (line_read c.args.channel.now c.args.name.now (reply_of c.args.reply)) (read_from c.args.channel.now c.in-Line.bytes (keeps_line c.args.name.now)) c.keep_bytes.result
    (ap (λ (r : HostReply). line_read c.args.channel.now c.args.name.now (reply_of r)) c.in-Line.is) c.keep_bytes.ensures.acts

pub returns-in-End-clause-acts : goal.returns-in-End-clause-acts
returns-in-End-clause-acts c =
    let number = c.from_int.ensures ∙ minus_one in
    acts_as c.args.tree.now c.keep.new.tree c.args.place (line_read c.args.channel.now c.args.name.now (reply_of c.args.reply)) (sets c.args.name.now c.empty.result (done (ok c.from_int.result))) c.keep.result
    (ap (λ (r : HostReply). line_read c.args.channel.now c.args.name.now (reply_of r)) c.in-End.is ∙ (λ i. sets c.args.name.now (sym c.empty.ensures i) (done (ok (sym number i))))) c.keep.ensures.acts

pub returns-in-Refused-clause-acts : goal.returns-in-Refused-clause-acts
returns-in-Refused-clause-acts c =
    over_acts c.args.tree.now c.args.place (line_read c.args.channel.now c.args.name.now (reply_of c.args.reply)) (Err c.refused_by_host.result)
    (over_err (line_read c.args.channel.now c.args.name.now (reply_of c.args.reply)) (failing (refusal_message (number_of c.in-Refused.why) c.args.channel.now)) c.refused_by_host.result (ap (λ (r : HostReply). line_read c.args.channel.now c.args.name.now (reply_of r)) c.in-Refused.is) c.refused_by_host.ensures)

pub returns-in_default-clause-acts : goal.returns-in_default-clause-acts
returns-in_default-clause-acts c =
    over_acts c.args.tree.now c.args.place (line_read c.args.channel.now c.args.name.now (reply_of c.args.reply)) (Ok c.empty-in_default.result)
    (gives_nothing (line_read c.args.channel.now c.args.name.now (reply_of c.args.reply)) c.empty-in_default.result (not_kept c.args.channel.now c.args.name.now c.args.reply c.in_default.not-Line c.in_default.not-End c.in_default.not-Refused) c.empty-in_default.ensures)
