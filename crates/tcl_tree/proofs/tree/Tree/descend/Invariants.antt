use Rattle.std.proofs.Common.{◌≡◌, drop, Some, ◌++◌}
use Rattle.slab.specs.Slab.{get}
use Rattle.tcl_tree.specs.Nodes.{follow}
use Rattle.tcl_interpreter.specs.Paths.{Path}
use Rattle.tcl_tree.specs.TreeOf.{key_of}
use Rattle.tcl_tree.proofs.tree.Tree.descend.Given as goal

abbrev pub invariant-names : goal.invariant-names
invariant-names l = (p : Path) → key_of l.self p ≡ Some l.fn.key → follow (get l.self.nodes) l.self.root (p ++ l.down) ≡ follow (get l.self.nodes) l.at (drop l.name-index l.down)
