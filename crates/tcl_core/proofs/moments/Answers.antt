use Rattle.tcl_core.proofs.Conclusions.{moments}
use Rattle.tcl_core.proofs.moments.Goals as goal

pub returns : goal.returns
returns g c = moments
