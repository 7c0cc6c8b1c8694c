use Rattle.tcl_core.proofs.Worked.{worked_unfound}
use Rattle.tcl_core.proofs.worked_unfound.Goals as goal

pub returns : goal.returns
returns c = worked_unfound
