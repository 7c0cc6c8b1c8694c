use Rattle.std.proofs.Common.{◌≡◌, Some, ◌≤◌, ◌-◌, length}
use Rattle.tcl_interpreter.specs.Paths.{Path, ancestor}
use Rattle.tcl_tree.specs.TreeOf.{key_of}
use Rattle.tcl_tree.proofs.tree.Tree.rise.Given as goal

-- so far the way has been up from each path that leads to the first key
abbrev pub invariant-climb : goal.invariant-climb
invariant-climb l = record {
  within : l.level ≤ l.up;
  leads : (p : Path) → key_of l.self p ≡ Some l.fn.key → record { short : l.level ≤ length p; at : key_of l.self (ancestor p l.level) ≡ Some l.at };
}

abbrev pub decreases-climb : goal.decreases-climb
decreases-climb l = l.up - l.level
