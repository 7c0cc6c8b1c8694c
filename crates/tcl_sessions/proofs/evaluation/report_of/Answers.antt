use Rattle.std.proofs.Common.{sym, subst}
use Rattle.tcl_eval.specs.declared.running.OpenEnd.{OpenEnd}
use Rattle.tcl_sessions.specs.Evaluations.{Shows}
use Rattle.tcl_sessions.proofs.evaluation.report_of.Goals as goal

pub returns-in_ok-of_call-in-Some : goal.returns-in_ok-of_call-in-Some
returns-in_ok-of_call-in-Some c =
    subst (λ (e : OpenEnd). Shows c.args.standing.now e c.in_ok-of_call-in-Some.field-0) (sym c.in-CutOff.is)
    (c.in-Some.call, c.in-Some.is, c.in_ok-of_call-in-Some.ensures)
