use Rattle.slab.specs.Slab.{get}
use Rattle.tcl_tree.specs.Walking.{Reached, left}
use Rattle.tcl_tree.proofs.tree.Tree.same.Given as goal

-- all that the walk came by is equal
abbrev pub invariant-walk : goal.invariant-walk
invariant-walk l = Reached (get l.self.nodes) (get l.other.nodes) l.self.root l.other.root l.key l.twin

abbrev pub decreases-walk : goal.decreases-walk
decreases-walk l = left (get l.self.nodes) l.key
