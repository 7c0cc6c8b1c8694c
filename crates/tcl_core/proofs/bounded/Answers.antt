use Rattle.tcl_core.proofs.Counts.{bounded}
use Rattle.tcl_core.proofs.bounded.Goals as goal

pub returns : goal.returns
returns g c = bounded
