-- A deletion while an evaluation is in progress.
use Rattle.std.specs.Prelude.{◌≡◌, ℕ, Result, Ok, Err, OnOk, OnErr}
use Rattle.tcl_interpreter.specs.Paths.{Path}
use Rattle.tcl_interpreter.specs.declared.refusal.TreeError.{TreeError}
use Rattle.tcl_tree.specs.Gone.{held_of}
use Rattle.tcl_tree.specs.Held.{Parts, Stays}
use Rattle.tcl_tree.specs.TreeOf.{key_of}
use Rattle.tcl_tree.specs.declared.tree.Tree.{Tree}
use Rattle.tcl_tree.proofs.PartLemmas.{parts_stay}
use Rattle.tcl_tree.proofs.StayLemmas.{stays_same}

-- who is in use stays so, whether something is deleted or that is refused
pub deleted_or_not : (t u : Tree) (c : Path) (r : Result (Unit {0}) TreeError) → OnOk r (Parts (held_of t) (key_of t) c (held_of u)) → OnErr r ((k : ℕ) → held_of u k ≡ held_of t k) → Stays (held_of t) (held_of u)
deleted_or_not t u c (Ok done) parts same = parts_stay t u c parts
deleted_or_not t u c (Err e) parts same = stays_same (held_of t) (held_of u) same
