use Rattle.std.proofs.Common.{◌≡◌, Some, ◌-◌, ◌^◌, ◌++◌}
use Rattle.slab.specs.Slab.{get}
use Rattle.tcl_tree.specs.Nodes.{level_in}
use Rattle.tcl_interpreter.specs.Paths.{Path}
use Rattle.tcl_tree.specs.TreeOf.{key_of}
use Rattle.tcl_tree.proofs.tree.Tree.deepest.Given as goal

abbrev pub invariant-descend : goal.invariant-descend
invariant-descend l = (p : Path) → key_of l.self p ≡ Some l.fn.key → (rest : Path) × (key_of l.self (p ++ rest) ≡ Some l.at)

abbrev pub decreases-descend : goal.decreases-descend
decreases-descend l = 2 ^ 64 - level_in (get l.self.nodes) l.at
