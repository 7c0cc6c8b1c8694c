use Rattle.tcl_reactions.proofs.Free.{never_stuck}
use Rattle.tcl_reactions.proofs.never_stuck.Goals as goal

pub returns : goal.returns
returns g c = never_stuck
