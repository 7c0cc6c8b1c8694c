use Rattle.slab.specs.Slab.{get}
use Rattle.tcl_tree.specs.Copying.{IsWalk, left_of}
use Rattle.tcl_tree.proofs.tree.Tree.subtable.Given as goal

abbrev pub invariant-walk : goal.invariant-walk
invariant-walk l = IsWalk (get l.self.nodes) (get l.nodes) l.top l.root l.open.items

abbrev pub decreases-walk : goal.decreases-walk
decreases-walk l = left_of (get l.self.nodes) (get l.nodes) l.open.items
