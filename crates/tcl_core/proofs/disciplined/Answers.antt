use Rattle.tcl_core.proofs.Disciplines.{disciplined}
use Rattle.tcl_core.proofs.disciplined.Goals as goal

pub returns : goal.returns
returns g c = disciplined
