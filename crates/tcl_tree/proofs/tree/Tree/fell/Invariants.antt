use Rattle.std.proofs.Common.{◌≡◌, ℕ, List, [], ◌∷◌, Some, false, ◌++◌}
use Rattle.tcl_tree.specs.Held.{standing}
use Rattle.tcl_tree.specs.Gone.{held_of}
use Rattle.tcl_tree.proofs.PartingLemmas.{Parting}
use Rattle.tcl_interpreter.specs.Paths.{Path, is_above}
use Rattle.tcl_tree.specs.TreeOf.{tree_of, key_of, marks_of}
use Rattle.tcl_tree.proofs.tree.Tree.fell.Given as goal

-- Of each path that leads to the top, which is one alone: it still does, one below it leads to where the next leaf is looked for, and
-- what isn't below it is as it was. What is below it still stands, or was taken out.
abbrev pub invariant-prune : goal.invariant-prune
invariant-prune l = record {
  marks : marks_of l.self ≡ marks_of l.fn.self;
  at : (p : Path) (n : List ℕ) → key_of l.fn.self (p ++ n ∷ []) ≡ Some l.fn.top → record {
    top : key_of l.self (p ++ n ∷ []) ≡ Some l.top;
    rest : Path;
    at : key_of l.self ((p ++ n ∷ []) ++ rest) ≡ Some l.at;
    same : (q : Path) → is_above (p ++ n ∷ []) q ≡ false → tree_of l.self q ≡ tree_of l.fn.self q;
    keys : (q : Path) (k : ℕ) → is_above (p ++ n ∷ []) q ≡ false → key_of l.fn.self q ≡ Some k → key_of l.self q ≡ Some k;
    parting : Parting (held_of l.fn.self) (key_of l.fn.self) (p ++ n ∷ []) (held_of l.self) (key_of l.self);
  };
}

abbrev pub decreases-prune : goal.decreases-prune
decreases-prune l = standing l.self.nodes
