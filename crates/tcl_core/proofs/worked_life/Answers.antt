use Rattle.tcl_core.proofs.Worked.{worked_life}
use Rattle.tcl_core.proofs.worked_life.Goals as goal

pub returns : goal.returns
returns c = worked_life
