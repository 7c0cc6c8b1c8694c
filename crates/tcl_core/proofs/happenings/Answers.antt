use Rattle.tcl_core.proofs.Counts.{happenings}
use Rattle.tcl_core.proofs.happenings.Goals as goal

pub returns : goal.returns
returns g c = happenings
