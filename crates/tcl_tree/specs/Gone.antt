-- Interpreters that are gone: deleted while evaluations were in progress in them or below them.
use Rattle.std.specs.Prelude.{◌≡◌, ◌⊎◌, ℕ, ◌≤◌, Some}
use Rattle.slab.specs.Slab.{get}
use Rattle.tcl_core.specs.Runs.{idle_up}
use Rattle.tcl_interpreter.specs.Paths.{Path}
use Rattle.tcl_tree.specs.Held.{Keys, depth_at, held_in, StoodAt, HighestGone}
use Rattle.tcl_tree.specs.TreeOf.{tree_of, Names}
use Rattle.tcl_tree.specs.declared.tree.Tree.{Tree}
use Rattle.tcl_tree.specs.declared.tree.Place.{Place}

-- what there is at each key, in the tree or gone
abbrev pub held_of : Tree → Keys
held_of t = held_in (get t.nodes)

-- how many evaluations are in progress in the interpreter that the place names, gone or not
abbrev pub depth_in : Tree → Place → ℕ
depth_in t place = depth_at (held_of t place.key)

-- The interpreter that the place names stood at the path and is gone, and so are those above it so
-- many levels up, but not the next one. So far up nothing is in progress in the tree as it stands.
pub record IsGone (t : Tree) (place : Place) (p : Path) (n : ℕ) : Type 0 where
  pub stood : StoodAt (held_of t) place.key p
  pub highest : HighestGone (held_of t) place.key n
  pub idle : idle_up (tree_of t) p ≡ Some n

-- An evaluation that is the d-th in progress is so in the interpreter that the place names, which
-- stands at the path, or stood there and is gone.
pub record Holds (t : Tree) (place : Place) (p : Path) (d : ℕ) : Type 0 where
  pub least : 1 ≤ d
  pub most : d ≤ depth_in t place
  pub somewhere : Names t place p ⊎ ((n : ℕ) × IsGone t place p n)
