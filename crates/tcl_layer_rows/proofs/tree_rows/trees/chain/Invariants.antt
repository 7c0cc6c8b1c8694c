use Rattle.tcl_tree.specs.Paths.{Path}
use Rattle.tcl_tree.specs.TreeOf.{Names}
use Rattle.tcl_layer_rows.proofs.tree_rows.trees.chain.Given as goal

-- the place is one of the tree
abbrev pub invariant-levels : goal.invariant-levels
invariant-levels l = (p : Path) × Names l.tree l.place p
