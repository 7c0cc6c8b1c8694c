use Rattle.tcl_recorder.proofs.Watched.{watched_run}
use Rattle.tcl_recorder.proofs.laws.runs_are_watched.Goals as goal

pub returns : goal.returns
returns g c prog T V o z p x r w f t = watched_run g.O.Outside.goes prog T V o z p x r w f t
