use Rattle.std.proofs.Common.{ap, sym, subst}
use Rattle.tcl_language.specs.Hosting.{line_read}
use Rattle.tcl_run.specs.Outsides.{reply_of}
use Rattle.tcl_calls.specs.HostCalls.{Ends, heard_by}
use Rattle.tcl_calls.specs.declared.host_calls.HostCall.{HostCall}
use Rattle.tcl_calls.proofs.Hosted.{acts_as, over_acts}
use Rattle.tcl_calls.proofs.replies.answer.Goals as goal

pub returns-in-ReadLineInto-clause-acts : goal.returns-in-ReadLineInto-clause-acts
returns-in-ReadLineInto-clause-acts c =
    acts_as c.args.tree.now c.keep_line.new.tree c.args.place (heard_by c.args.call.now (reply_of c.args.reply)) (line_read c.in-ReadLineInto.channel c.in-ReadLineInto.name (reply_of c.args.reply)) c.keep_line.result
    (ap (λ (x : HostCall). heard_by x (reply_of c.args.reply)) c.in-ReadLineInto.is) c.keep_line.ensures.acts

pub returns-in-ReadLine-clause-acts : goal.returns-in-ReadLine-clause-acts
returns-in-ReadLine-clause-acts c =
    over_acts c.args.tree.now c.args.place (heard_by c.args.call.now (reply_of c.args.reply)) c.text_read.result
    (subst (λ (x : HostCall). Ends (heard_by x (reply_of c.args.reply)) c.text_read.result) (sym c.in-ReadLine.is) c.text_read.ensures)

pub returns-in-ReadAll-clause-acts : goal.returns-in-ReadAll-clause-acts
returns-in-ReadAll-clause-acts c =
    over_acts c.args.tree.now c.args.place (heard_by c.args.call.now (reply_of c.args.reply)) c.text_read-in-ReadAll.result
    (subst (λ (x : HostCall). Ends (heard_by x (reply_of c.args.reply)) c.text_read-in-ReadAll.result) (sym c.in-ReadAll.is) c.text_read-in-ReadAll.ensures)

pub returns-in-Open-clause-acts : goal.returns-in-Open-clause-acts
returns-in-Open-clause-acts c =
    over_acts c.args.tree.now c.args.place (heard_by c.args.call.now (reply_of c.args.reply)) c.opened.result
    (subst (λ (x : HostCall). Ends (heard_by x (reply_of c.args.reply)) c.opened.result) (sym c.in-Open.is) c.opened.ensures)

pub returns-in-Write-clause-acts : goal.returns-in-Write-clause-acts
returns-in-Write-clause-acts c =
    over_acts c.args.tree.now c.args.place (heard_by c.args.call.now (reply_of c.args.reply)) c.accepted.result
    (subst (λ (x : HostCall). Ends (heard_by x (reply_of c.args.reply)) c.accepted.result) (sym c.in-Write.is) c.accepted.ensures)

pub returns-in-Flush-clause-acts : goal.returns-in-Flush-clause-acts
returns-in-Flush-clause-acts c =
    over_acts c.args.tree.now c.args.place (heard_by c.args.call.now (reply_of c.args.reply)) c.accepted-in-Flush.result
    (subst (λ (x : HostCall). Ends (heard_by x (reply_of c.args.reply)) c.accepted-in-Flush.result) (sym c.in-Flush.is) c.accepted-in-Flush.ensures)

pub returns-in-Close-clause-acts : goal.returns-in-Close-clause-acts
returns-in-Close-clause-acts c =
    over_acts c.args.tree.now c.args.place (heard_by c.args.call.now (reply_of c.args.reply)) c.accepted-in-Close.result
    (subst (λ (x : HostCall). Ends (heard_by x (reply_of c.args.reply)) c.accepted-in-Close.result) (sym c.in-Close.is) c.accepted-in-Close.ensures)

pub returns-in-Eof-clause-acts : goal.returns-in-Eof-clause-acts
returns-in-Eof-clause-acts c =
    over_acts c.args.tree.now c.args.place (heard_by c.args.call.now (reply_of c.args.reply)) c.at_end.result
    (subst (λ (x : HostCall). Ends (heard_by x (reply_of c.args.reply)) c.at_end.result) (sym c.in-Eof.is) c.at_end.ensures)
