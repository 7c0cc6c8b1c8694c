use Rattle.tcl_core.proofs.Conclusions.{non_interference}
use Rattle.tcl_core.proofs.non_interference.Goals as goal

pub returns : goal.returns
returns g c = non_interference
