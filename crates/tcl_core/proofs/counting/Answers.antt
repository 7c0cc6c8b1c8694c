use Rattle.tcl_core.proofs.Counts.{counting}
use Rattle.tcl_core.proofs.counting.Goals as goal

pub returns : goal.returns
returns g c = counting
