use Rattle.tcl_reactions.proofs.OneOutcome.{one_outcome}
use Rattle.tcl_reactions.proofs.one_outcome.Goals as goal

pub returns : goal.returns
returns g c = one_outcome
