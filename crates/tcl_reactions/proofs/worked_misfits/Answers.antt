use Rattle.tcl_reactions.proofs.Worked.{worked_misfits}
use Rattle.tcl_reactions.proofs.worked_misfits.Goals as goal

pub returns : goal.returns
returns c = worked_misfits
