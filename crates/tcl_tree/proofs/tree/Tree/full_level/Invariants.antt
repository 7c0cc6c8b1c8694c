use Rattle.std.proofs.Common.{◌≡◌, ℕ, Some, false, ◌+◌, ◌<◌, ◌≤◌, ◌^◌, length}
use Rattle.slab.specs.Slab.{get}
use Rattle.tcl_tree.specs.Nodes.{full_up, full_of, level_in}
use Rattle.tcl_interpreter.specs.Paths.{Path, ancestor}
use Rattle.tcl_tree.specs.TreeOf.{tree_of, key_of}
use Rattle.tcl_tree.proofs.tree.Tree.full_level.Given as goal

-- at each path that leads to the first key, which is one alone
abbrev pub invariant-climb : goal.invariant-climb
invariant-climb l = (p : Path) → key_of l.self p ≡ Some l.fn.key → record {
  within : l.level ≤ length p;
  leads : key_of l.self (ancestor p l.level) ≡ Some l.at;
  below : (m : ℕ) → m < l.level → full_up (full_of l.meter) (tree_of l.self) p m ≡ false;
  fits : l.level + level_in (get l.self.nodes) l.at < 2 ^ 64;
}

abbrev pub decreases-climb : goal.decreases-climb
decreases-climb l = level_in (get l.self.nodes) l.at
