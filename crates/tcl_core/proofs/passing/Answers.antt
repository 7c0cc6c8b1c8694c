use Rattle.tcl_core.proofs.Quits.{passing}
use Rattle.tcl_core.proofs.passing.Goals as goal

pub returns : goal.returns
returns g c = passing
