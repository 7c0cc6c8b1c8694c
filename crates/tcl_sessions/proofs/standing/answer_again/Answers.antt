use Rattle.std.proofs.Common.{sym, subst}
use Rattle.tcl_run.specs.Entering.{whole_entry}
use Rattle.tcl_sessions.specs.Standing.{AnswersAgain}
use Rattle.tcl_sessions.specs.declared.standing.Answer.{Answer}
use Rattle.tcl_sessions.proofs.standing.answer_again.Goals as goal

pub returns-in-Completed : goal.returns-in-Completed
returns-in-Completed c =
    subst (λ (a : Answer). AnswersAgain c.args.up (whole_entry c.args.entry.now) a c.complete_again.result) (sym c.in-Completed.is)
    (c.complete_again.ensures (whole_entry c.args.entry.now))
