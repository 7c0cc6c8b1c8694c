use Rattle.tcl_core.proofs.Dropped.{isolation_to_drop}
use Rattle.tcl_core.proofs.isolation_to_drop.Goals as goal

pub returns : goal.returns
returns g c = isolation_to_drop
