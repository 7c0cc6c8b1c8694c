use Rattle.tcl_core.proofs.GoneOnes.{gone_is_dropped}
use Rattle.tcl_core.proofs.gone_is_dropped.Goals as goal

pub returns : goal.returns
returns g c = gone_is_dropped
