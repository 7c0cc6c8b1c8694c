use Rattle.tcl_core.proofs.Conclusions.{determinism}
use Rattle.tcl_core.proofs.determinism.Goals as goal

pub returns : goal.returns
returns g c = determinism
