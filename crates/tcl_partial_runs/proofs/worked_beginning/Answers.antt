use Rattle.tcl_partial_runs.proofs.Worked.{worked_beginning}
use Rattle.tcl_partial_runs.proofs.worked_beginning.Goals as goal

pub returns : goal.returns
returns c = worked_beginning
