use Rattle.tcl_reactions.proofs.Worked.{worked_playings}
use Rattle.tcl_reactions.proofs.worked_playings.Goals as goal

pub returns : goal.returns
returns c = worked_playings
