use Rattle.tcl_core.proofs.Worked.{worked_reactions}
use Rattle.tcl_core.proofs.worked_reactions.Goals as goal

pub returns : goal.returns
returns c = worked_reactions
