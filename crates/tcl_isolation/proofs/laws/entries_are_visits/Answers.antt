use Rattle.tcl_isolation.proofs.Entering.{entry_visit}
use Rattle.tcl_isolation.proofs.laws.entries_are_visits.Goals as goal

pub returns : goal.returns
returns g d prog T V o z t i c r node there th = entry_visit _ prog T V o z t i c r node there th
