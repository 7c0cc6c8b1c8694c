use Rattle.std.proofs.Common.{◌≤◌}
use Rattle.slab.specs.Slab.{get}
use Rattle.tcl_tree.specs.Nodes.{level_in}
use Rattle.tcl_tree.specs.Walking.{Reached, SameBelow, left_behind}
use Rattle.tcl_tree.proofs.tree.Tree.pair_behind.Given as goal

-- what is below the two keys is equal, and no more is left behind them
abbrev pub invariant-climb : goal.invariant-climb
invariant-climb l = record {
  reached : Reached (get l.self.nodes) (get l.other.nodes) l.self.root l.other.root l.at l.twin_at;
  same : SameBelow (get l.self.nodes) (get l.other.nodes) l.at l.twin_at;
  less : left_behind (get l.self.nodes) l.at ≤ left_behind (get l.self.nodes) l.fn.key;
}

abbrev pub decreases-climb : goal.decreases-climb
decreases-climb l = level_in (get l.self.nodes) l.at
