use Rattle.tcl_core.proofs.WorkedDeletion.{worked_deletion}
use Rattle.tcl_core.proofs.worked_deletion.Goals as goal

pub returns : goal.returns
returns c = worked_deletion
