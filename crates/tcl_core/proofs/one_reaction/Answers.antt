use Rattle.tcl_core.proofs.Reactions.{one_reaction}
use Rattle.tcl_core.proofs.one_reaction.Goals as goal

pub returns : goal.returns
returns g c = one_reaction
