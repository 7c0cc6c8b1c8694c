use Rattle.tcl_reactions.proofs.Pauses.{reacts_before}
use Rattle.tcl_reactions.proofs.reacts_before.Goals as goal

pub returns : goal.returns
returns g c = reacts_before
