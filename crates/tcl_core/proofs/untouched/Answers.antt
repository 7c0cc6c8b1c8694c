use Rattle.tcl_core.proofs.Inward.{untouched}
use Rattle.tcl_core.proofs.untouched.Goals as goal

pub returns : goal.returns
returns g c = untouched
