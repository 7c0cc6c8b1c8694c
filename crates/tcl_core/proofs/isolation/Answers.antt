use Rattle.tcl_core.proofs.Worlds.{isolation}
use Rattle.tcl_core.proofs.isolation.Goals as goal

pub returns : goal.returns
returns g c = isolation
