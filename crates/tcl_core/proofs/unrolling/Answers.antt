use Rattle.tcl_core.proofs.Folding.{roll, unroll}
use Rattle.tcl_core.proofs.unrolling.Goals as goal

pub returns : goal.returns
returns g c prog w p x v e = (roll prog w p x v e, unroll prog w p x v e)
