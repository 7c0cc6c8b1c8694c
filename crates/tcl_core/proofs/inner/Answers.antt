use Rattle.tcl_core.proofs.Conclusions.{inner}
use Rattle.tcl_core.proofs.inner.Goals as goal

pub returns : goal.returns
returns g c = inner
