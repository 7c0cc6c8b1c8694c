use Rattle.tcl_reactions.proofs.Depths.{depths_stay}
use Rattle.tcl_reactions.proofs.depths_stay.Goals as goal

pub returns : goal.returns
returns g c = depths_stay
