use Rattle.tcl_core.proofs.Safeguards.{limits_kept}
use Rattle.tcl_core.proofs.limits_kept.Goals as goal

pub returns : goal.returns
returns g c = limits_kept
