use Rattle.tcl_tree.proofs.DeletionLemmas.{nothing_left}
use Rattle.tcl_tree.proofs.laws.nothing_left.Goals as goal

pub returns : goal.returns
returns c = nothing_left
