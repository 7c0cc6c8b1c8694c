use Rattle.std.proofs.Common.{◌≡◌, ℕ, List, Some, true, ◌+◌, ◌≤◌, length}
use Rattle.std.specs.Prelude.{MatchOption}
use Rattle.std.specs.Option.{option_map, option_map_or}
use Rattle.slab.specs.Slab.{get}
use Rattle.tcl_tree.specs.Nodes.{IsSound, charged_below, follow, level_in, moved, place_of, tree_in}
use Rattle.tcl_interpreter.specs.Paths.{Path, ancestor, is_above}
use Rattle.tcl_tree.proofs.tree.meters.raise.Given as goal

abbrev pub invariant-climb : goal.invariant-climb
invariant-climb l = (root : ℕ) (p : Path) → IsSound (get l.fn.nodes) root → follow (get l.fn.nodes) root p ≡ Some l.fn.key → record {
  sound : IsSound (get l.nodes) root;
  places : (k : ℕ) → option_map place_of (get l.nodes k) ≡ option_map place_of (get l.fn.nodes k);
  rest : (k : ℕ) → ((q : Path) → is_above q p ≡ true → follow (get l.fn.nodes) root q ≡ Some k → ⊥) → get l.nodes k ≡ get l.fn.nodes k;
  count : ℕ;
  tree : (q : List (List ℕ)) → tree_in (get l.nodes) root q ≡ charged_below (moved l.meter) (tree_in (get l.fn.nodes) root) p count q;
  leads : MatchOption l.next (count ≡ length p + 1) (λ at. (count ≤ length p) × (follow (get l.nodes) root (ancestor p count) ≡ Some at));
}

abbrev pub decreases-climb : goal.decreases-climb
decreases-climb l = option_map_or (λ at. level_in (get l.nodes) at + 1) l.next 0
