use Rattle.tcl_core.proofs.Depths.{steady}
use Rattle.tcl_core.proofs.steady.Goals as goal

pub returns : goal.returns
returns g c = steady
