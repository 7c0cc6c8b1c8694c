use Rattle.tcl_recorder.proofs.Visits.{watched_entry}
use Rattle.tcl_recorder.proofs.laws.entries_are_watched.Goals as goal

pub returns : goal.returns
returns g c prog T V o w t i r node there whole run = watched_entry g.O.Outside.goes prog T V o w t i r node there whole run
