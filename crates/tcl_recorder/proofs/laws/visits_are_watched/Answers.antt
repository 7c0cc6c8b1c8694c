use Rattle.tcl_recorder.proofs.Visits.{watched_visit}
use Rattle.tcl_recorder.proofs.laws.visits_are_watched.Goals as goal

pub returns : goal.returns
returns g c prog T V o u w z t i r node there enters run leaves = watched_visit g.O.Outside.goes prog T V o u w z t i r node there enters run leaves
