use Rattle.std.proofs.Common.{◌≡◌, ℕ}
use Rattle.std.specs.Prelude.{IsSome}
use Rattle.slab.specs.Slab.{get}
use Rattle.tcl_interpreter.specs.Paths.{Path}
use Rattle.tcl_tree.specs.Nodes.{level_in}
use Rattle.tcl_tree.specs.Held.{IsInnermost, Keys, Shallows}
use Rattle.tcl_tree.specs.Gone.{held_of, Holds}
use Rattle.tcl_tree.specs.TreeOf.{key_of, marks_of, tree_of}
use Rattle.tcl_tree.proofs.WayLemmas.{Climbed}
use Rattle.tcl_tree.proofs.tree.Tree.unnest.Given as goal

-- The way up has come to the key: what is lowered from there on is lowered from the place on, and the tree is as it was.
abbrev pub invariant-gone : goal.invariant-gone
invariant-gone l = record {
  marks : marks_of l.self ≡ marks_of l.fn.self;
  root : l.self.root ≡ l.fn.self.root;
  keys : (q : Path) → key_of l.self q ≡ key_of l.fn.self q;
  tree : (q : Path) → tree_of l.self q ≡ tree_of l.fn.self q;
  there : IsSome (held_of l.self l.at);
  innermost : IsInnermost (held_of l.self) l.at;
  lowered : (H : Keys) → Shallows (held_of l.self) l.at H → Shallows (held_of l.fn.self) l.fn.place.key H;
  climbed : (p : Path) (d : ℕ) → Holds l.fn.self l.fn.place p d → Climbed (held_of l.self) (tree_of l.fn.self) p l.at;
}

abbrev pub decreases-gone : goal.decreases-gone
decreases-gone l = level_in (get l.self.nodes) l.at
