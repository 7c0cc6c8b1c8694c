use Rattle.tcl_core.proofs.Outside.{quiet_outside}
use Rattle.tcl_core.proofs.quiet_outside.Goals as goal

pub returns : goal.returns
returns g c = quiet_outside
