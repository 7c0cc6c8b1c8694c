-- Commands that look at the interpreter where they are called.
use Rattle.std.proofs.Common.{◌≡◌, Some, refl, sym, subst}
use Rattle.std.specs.Prelude.{Result}
use Rattle.tcl_core.specs.Endings.{ok}
use Rattle.tcl_core.specs.Endings.Reply.{Completed}
use Rattle.tcl_core.specs.Paths.{Path, Text}
use Rattle.tcl_core.specs.Programs.Prog.{done}
use Rattle.tcl_core.specs.Trees.{Node}
use Rattle.tcl_language.specs.Instructions.{Program, either, fails, fits, gives, look, too_long}
use Rattle.tcl_run.specs.Ends.{IfEnded, Interrupts, failing}
use Rattle.tcl_run.specs.Plain.{Does, Acts}
use Rattle.tcl_run.specs.declared.interruption.Interruption.{Interruption}
use Rattle.tcl_run.proofs.Endings.{Interrupts-more}
use Rattle.tcl_run.proofs.Plain.{does_look}
use Rattle.tcl_run.proofs.Steady.{stands}
use Rattle.tcl_tree.specs.Own.{Own}
use Rattle.tcl_tree.specs.TreeOf.{tree_of, Names}
use Rattle.tcl_tree.specs.declared.tree.Tree.{Tree as Table}
use Rattle.tcl_tree.specs.declared.tree.Place.{Place as TablePlace}
use Rattle.tcl_tree.proofs.CoreLemmas.{tree_there}
use Rattle.tcl_commands.specs.Steps.{EndsAt}
use Rattle.tcl_commands.proofs.Going.{acts_more}

-- what is done of the interpreter as it stands
pub acts_looking : (t u : Table) (place : TablePlace) (k : Node Own → Program) (y : Program) (result : Result Text Interruption) → ((p : Path) (n : Node Own) → Names t place p → tree_of t p ≡ Some n → k n ≡ y) →
    Acts t place (λ style. y) u result → Acts t place (λ style. look k) u result
acts_looking t u place k y result same acts = acts_more t u place (λ style. look k) (λ r. EndsAt t place (λ style. y) (tree_of u) r) result (λ r e p style at.
    let n = stands (tree_of t p) (tree_there t p _ at.names) in
    does_look (tree_of t) (tree_of u) p r n.0 k n.1 (subst (λ (x : Program). Does x (tree_of t) p (tree_of u) r) (sym (same p n.0 at.names n.1)) (e p style at))) acts

-- what is told of it
pub told_looking : (t : Table) (place : TablePlace) (k : Node Own → Program) (text : Text) → ((p : Path) (n : Node Own) → Names t place p → tree_of t p ≡ Some n → k n ≡ done (ok text)) →
    EndsAt t place (λ style. look k) (tree_of t) (Completed (ok text))
told_looking t place k text same = λ p style at.
    let n = stands (tree_of t p) (tree_there t p _ at.names) in
    does_look (tree_of t) (tree_of t) p (Completed (ok text)) n.0 k n.1 (subst (λ (x : Program). Does x (tree_of t) p (tree_of t) (Completed (ok text))) (sym (same p n.0 at.names n.1)) (refl, refl))

-- an error
pub fails_acts : (t : Table) (place : TablePlace) (text : Text) (i : Interruption) → Interrupts i (λ e. e ≡ Completed (failing text)) → Interrupts i (EndsAt t place (λ style. fails text) (tree_of t))
fails_acts t place text i h = Interrupts-more i _ _ (λ r e p style at. (refl, e)) h

-- a text that may be too long
pub gives_acts : (t : Table) (place : TablePlace) (text : Text) (result : Result Text Interruption) → IfEnded result (λ r. r ≡ Completed (either (fits text) (ok text) too_long)) → Acts t place (λ style. gives text) t result
gives_acts t place text result h = acts_more t t place (λ style. gives text) (λ r. r ≡ Completed (either (fits text) (ok text) too_long)) result (λ r e p style at. (refl, e)) h
