use Rattle.tcl_core.proofs.Beginnings.{isolation_until}
use Rattle.tcl_core.proofs.isolation_until.Goals as goal

pub returns : goal.returns
returns g c = isolation_until
