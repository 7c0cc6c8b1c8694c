-- What commands come to that evaluate nothing.
use Rattle.std.proofs.Common.{◌≡◌, subst}
use Rattle.std.specs.Prelude.{Result}
use Rattle.tcl_core.specs.Paths.{Path, Text}
use Rattle.tcl_core.specs.Trees.{Node}
use Rattle.tcl_language.specs.Instructions.{Program}
use Rattle.tcl_parser.specs.Words.{Reading}
use Rattle.tcl_run.specs.Plain.{Acts, Does}
use Rattle.tcl_run.specs.Runs.{IsAt, IsThere, ProceedsIn, Ways}
use Rattle.tcl_run.specs.declared.interruption.Interruption.{Interruption}
use Rattle.tcl_run.proofs.Endings.{ran}
use Rattle.tcl_run.proofs.Proceeding.{does_proceeds, stopped}
use Rattle.tcl_text.specs.declared.integer.Integers.{Integers}
use Rattle.tcl_tree.specs.Own.{Own}
use Rattle.tcl_tree.specs.TreeOf.{tree_of, marks_of}
use Rattle.tcl_tree.specs.declared.tree.Tree.{Tree as Table}
use Rattle.tcl_tree.specs.declared.tree.Place.{Place as TablePlace}
use Rattle.tcl_evaluation.specs.Hands.{IsCounted}
use Rattle.tcl_evaluation.proofs.Steps.{EndsFrom}

-- who is there, in use or not
pub there_at : (t : Table) (place : TablePlace) (p : Path) (style : Integers) → IsAt t place p style → IsThere t place p style
there_at t place p style at = record { names = at.names; style_is = at.style_is }

-- what evaluates nothing
pub acts_proceeds : {S : Type 0} (ways : Ways S) (t u : Table) (o : S) (place : TablePlace) (program : Integers → Program) (r : Result Text Interruption) → Acts t place program u r → ProceedsIn ways t o place program u o r
acts_proceeds ways t u o place program r acts = ran r (λ e. (p : Path) (style : Integers) → IsThere t place p style → Does (program style) (tree_of t) p (tree_of u) e)
    (EndsFrom ways t o place program u o) (λ e h p style at. does_proceeds (program style) o (h p style (there_at t place p style at))) (λ p style at. stopped) acts

-- what begins where nothing has happened
pub unchanged_runs : {S : Type 0} (ways : Ways S) (t u v : Table) (o w z : S) (place : TablePlace) (program : Integers → Program) (r : Result Text Interruption) → u ≡ t → w ≡ o → ProceedsIn ways u w place program v z r → ProceedsIn ways t o place program v z r
unchanged_runs ways t u v o w z place program r e f h = subst (λ (x : Table). ProceedsIn ways x o place program v z r) e (subst (λ x. ProceedsIn ways u x place program v z r) f h)

-- a sum or an answer at hand in a tree of some style
pub sum_in : (t : Table) (style : Integers) (n : Node Own) (script : Reading) (text : Text) → (marks_of t).integers ≡ style → IsCounted (marks_of t).integers n script text → IsCounted style n script text
sum_in t style n script text e h = subst (λ (s : Integers). IsCounted s n script text) e h
