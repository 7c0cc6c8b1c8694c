use Rattle.tcl_core.proofs.Counts.{limiting}
use Rattle.tcl_core.proofs.limiting.Goals as goal

pub returns : goal.returns
returns g c = limiting
