use Rattle.std.proofs.Common.{◌≡◌, ◌++◌, Some, ◌≤◌, length, reverse}
use Rattle.tcl_interpreter.specs.Paths.{Path, ancestor}
use Rattle.tcl_tree.specs.Gone.{held_of}
use Rattle.tcl_tree.specs.Held.{StoodAt}
use Rattle.tcl_tree.specs.TreeOf.{key_of}
use Rattle.tcl_tree.proofs.tree.Tree.last_names.Given as goal

-- so far the way has been up from each path that leads to the first key, and the names are those of its steps
abbrev pub invariant-climb : goal.invariant-climb
invariant-climb l = record {
  count : length l.names.items ≡ l.counter;
  leads : (p : Path) → key_of l.self p ≡ Some l.fn.place.key → record { short : l.counter ≤ length p; at : key_of l.self (ancestor p l.counter) ≡ Some l.at; names : ancestor p l.counter ++ reverse l.names.items ≡ p };
  stood : (p : Path) → StoodAt (held_of l.self) l.fn.place.key p → record { short : l.counter ≤ length p; at : StoodAt (held_of l.self) l.at (ancestor p l.counter); names : ancestor p l.counter ++ reverse l.names.items ≡ p };
}
