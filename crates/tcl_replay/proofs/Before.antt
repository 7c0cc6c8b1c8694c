-- Why an evaluation that is watched is refused.
use Rattle.std.proofs.Common.{◌≡◌, ◌+◌, ℕ, Bool, true, false, None, Some, refl, ap}
use Rattle.std.specs.Prelude.{is_some, ◌&&◌, nat_le}
use Rattle.tcl_core.specs.Paths.{Path, Text}
use Rattle.tcl_eval.specs.Running.{first_of, most_steps, root_count, unfit}
use Rattle.tcl_eval.specs.declared.running.Refused.TheVariants as refused
use Rattle.tcl_language.specs.Instructions.{fits}
use Rattle.tcl_replay.specs.Watched.{unwatchable}
use Rattle.tcl_tree.specs.TreeOf.{marks_of, tree_of}
use Rattle.tcl_tree.specs.declared.tree.Tree.{Tree as Table}

-- where a run can begin, the interpreter stands, and the script is short
first_there : (b t c s : Bool) → first_of b t c s ≡ None → t ≡ true
first_there true t c s e = let x : Some refused.Broken ≡ None = e in absurd cc
first_there false true c s e = refl
first_there false false c s e = let x : Some refused.NoInterpreter ≡ None = e in absurd cc

pub fit_there : (t : Table) (path : Path) (script : Text) (limit : ℕ) → unfit t path script limit ≡ None → is_some (tree_of t path) ≡ true
fit_there t path script limit e = first_there (marks_of t).broken (is_some (tree_of t path)) (nat_le (root_count t + limit) most_steps) (fits script) e

first_both : (b p w c s : Bool) → first_of b (p && w) c s ≡ None → (p ≡ true) × (w ≡ true)
first_both true p w c s e = let x : Some refused.Broken ≡ None = e in absurd cc
first_both false true true c s e = (refl, refl)
first_both false true false c s e = let x : Some refused.NoInterpreter ≡ None = e in absurd cc
first_both false false w c s e = let x : Some refused.NoInterpreter ≡ None = e in absurd cc

pub both_there : (t : Table) (path : Path) (script : Text) (limit : ℕ) (watched : Path) → unwatchable t path script limit watched ≡ None → (is_some (tree_of t path) ≡ true) × (is_some (tree_of t watched) ≡ true)
both_there t path script limit watched e = first_both (marks_of t).broken (is_some (tree_of t path)) (is_some (tree_of t watched)) (nat_le (root_count t + limit) most_steps) (fits script) e

-- where the tree is broken, that is told of both; and where it isn't and somebody stands where it is watched, what is told of the run is
same_if : (b p w c s : Bool) → (b ≡ true) → first_of b p c s ≡ first_of b (p && w) c s
same_if true p w c s e = refl
same_if false p w c s e = let x : false ≡ true = e in absurd cc

pub same_broken : (t : Table) (path : Path) (script : Text) (limit : ℕ) (watched : Path) → (marks_of t).broken ≡ true → unfit t path script limit ≡ unwatchable t path script limit watched
same_broken t path script limit watched e = same_if (marks_of t).broken (is_some (tree_of t path)) (is_some (tree_of t watched)) (nat_le (root_count t + limit) most_steps) (fits script) e

same_where : (b p w c s : Bool) → (w ≡ true) → first_of b p c s ≡ first_of b (p && w) c s
same_where b true true c s e = refl
same_where b false w c s e = refl
same_where b true false c s e = let x : false ≡ true = e in absurd cc

pub same_there : (t : Table) (path : Path) (script : Text) (limit : ℕ) (watched : Path) → is_some (tree_of t watched) ≡ true → unfit t path script limit ≡ unwatchable t path script limit watched
same_there t path script limit watched e = same_where (marks_of t).broken (is_some (tree_of t path)) (is_some (tree_of t watched)) (nat_le (root_count t + limit) most_steps) (fits script) e

nobody_so : (b p w c s : Bool) → b ≡ false → w ≡ false → Some refused.NoInterpreter ≡ first_of b (p && w) c s
nobody_so false true false c s e f = refl
nobody_so false false w c s e f = refl
nobody_so true p w c s e f = let x : true ≡ false = e in absurd cc
nobody_so b p true c s e f = let x : true ≡ false = f in absurd cc

pub nobody : (t : Table) (path : Path) (script : Text) (limit : ℕ) (watched : Path) → (marks_of t).broken ≡ false → tree_of t watched ≡ None → Some refused.NoInterpreter ≡ unwatchable t path script limit watched
nobody t path script limit watched e f = nobody_so (marks_of t).broken (is_some (tree_of t path)) (is_some (tree_of t watched)) (nat_le (root_count t + limit) most_steps) (fits script) e (ap is_some f)
