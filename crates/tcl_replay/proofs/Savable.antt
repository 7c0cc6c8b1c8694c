-- When an interpreter can be saved.
use Rattle.std.proofs.Common.{◌≡◌, Bool, true, false}
use Rattle.std.specs.Prelude.{IfSome, is_some}
use Rattle.tcl_core.specs.Paths.{Path}
use Rattle.tcl_eval.specs.declared.running.Refused.{Refused}
use Rattle.tcl_tree.specs.TreeOf.{marks_of, tree_of}
use Rattle.tcl_tree.specs.declared.tree.Tree.{Tree as Table}
use Rattle.tcl_replay.specs.Saved.{first_of, unsavable}

nothing_said : (b s : Bool) (P : Refused → Type 0) → b ≡ false → s ≡ true → IfSome (first_of b s) P
nothing_said false true P e f = tt
nothing_said true s P e f = let x : true ≡ false = e in absurd cc
nothing_said false false P e f = let x : false ≡ true = f in absurd cc

-- where the tree isn't broken and somebody stands there, no refusal is told
pub savable : (t : Table) (path : Path) (P : Refused → Type 0) → (marks_of t).broken ≡ false → is_some (tree_of t path) ≡ true → IfSome (unsavable t path) P
savable t path P e f = nothing_said (marks_of t).broken (is_some (tree_of t path)) P e f
