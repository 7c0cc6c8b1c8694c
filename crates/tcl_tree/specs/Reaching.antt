-- How one interpreter is reached from another.
use Rattle.std.specs.Prelude.{◌≡◌, ℕ, ◌++◌, Some, None}
use Rattle.tcl_core.specs.Paths.{rise}
use Rattle.tcl_interpreter.specs.Paths.{Path}
use Rattle.tcl_tree.specs.TreeOf.{tree_of, Names}
use Rattle.tcl_tree.specs.declared.tree.Tree.{Tree}
use Rattle.tcl_tree.specs.declared.tree.places.Reach.{Reach}
use Rattle.tcl_tree.specs.declared.tree.places.Reach.TheVariants.{There, Missing, Outside}

-- The way from p goes so many levels up, which may pass the root, and then these names down.
abbrev pub Leads : Tree → Path → ℕ → Path → Reach → Type 0
Leads t p up down (There place) = (a : Path) × (rise up p ≡ Some a) × Names t place (a ++ down)
Leads t p up down Missing = (a : Path) × (rise up p ≡ Some a) × (tree_of t (a ++ down) ≡ None)
Leads t p up down Outside = rise up p ≡ None
