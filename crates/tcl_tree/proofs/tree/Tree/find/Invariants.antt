use Rattle.std.proofs.Common.{◌≡◌, drop}
use Rattle.slab.specs.Slab.{get}
use Rattle.tcl_tree.specs.Nodes.{follow}
use Rattle.tcl_tree.proofs.tree.Tree.find.Given as goal

-- the names left lead from the key where the whole path leads from the root
abbrev pub invariant-loop-name : goal.invariant-loop-name
invariant-loop-name l = follow (get l.self.nodes) l.self.root l.path ≡ follow (get l.self.nodes) l.key (drop l.name-index l.path)
