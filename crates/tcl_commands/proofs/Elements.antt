-- What `lassign` comes to.
use Rattle.std.proofs.Common.{◌≡◌, List, ◌∷◌, length, refl, sym, subst}
use Rattle.std.specs.Prelude.{Result, Ok, Err}
use Rattle.tcl_core.specs.Paths.{Text}
use Rattle.tcl_language.specs.Control.{sets_names}
use Rattle.tcl_language.specs.Data.{answered, lassign}
use Rattle.tcl_language.specs.Instructions.{Program}
use Rattle.tcl_lists.specs.Lists.{lassign_rest}
use Rattle.tcl_run.specs.Ends.{Interrupts}
use Rattle.tcl_run.specs.Plain.{Acts}
use Rattle.tcl_run.specs.Runs.{IsLevel}
use Rattle.tcl_run.specs.declared.interruption.Interruption.{Interruption}
use Rattle.tcl_run.proofs.Endings.{Interrupts-more}
use Rattle.tcl_run.proofs.Plain.{does_read}
use Rattle.tcl_text.specs.Lists.{list_of}
use Rattle.tcl_text.specs.Writing.{fault_message}
use Rattle.tcl_tree.specs.TreeOf.{tree_of, marks_of}
use Rattle.tcl_tree.specs.declared.tree.Tree.{Tree as Table}
use Rattle.tcl_tree.specs.declared.tree.Place.{Place as TablePlace}
use Rattle.tcl_commands.specs.Answers.{IsGiven}
use Rattle.tcl_commands.specs.Reaching.{GetsTo, GetsToEnd}
use Rattle.tcl_commands.proofs.Answering.{given_acts}
use Rattle.tcl_commands.proofs.Going.{goes_acts, leads_by, passed_acts}
use Rattle.tcl_commands.proofs.Reached.{end_does, reaches_does}

module _ (t u : Table) (place : TablePlace) (args : List Text) (list : Text) (names elements : List Text) (is : args ≡ list ∷ names) (read : list_of list ≡ Ok elements) where
  pub lassign_acts : (left : List Text) (result : Result Text Interruption) → IsLevel t u → ((k : List Text → Program) → GetsTo t place (sets_names names elements k) u (k left)) → IsGiven (lassign_rest (length names) elements) result →
      Acts t place (λ style. lassign args) u result
  lassign_acts left result level set given =
      subst (λ (xs : List Text). Acts t place (λ style. lassign xs) u result) (sym is)
      (goes_acts t u u place (λ style. lassign (list ∷ names)) (λ style. answered (lassign_rest (length names) elements)) result
      (leads_by t u place (λ style. lassign (list ∷ names)) (λ style. answered (lassign_rest (length names) elements)) level (λ p style V r at d.
      does_read (tree_of t) V p r fault_message (list_of list) elements (λ es. sets_names names es (λ left. answered (lassign_rest (length names) es))) read
      (reaches_does V r (set (λ left. answered (lassign_rest (length names) elements)) p at.names) d)))
      (given_acts u place (λ style. lassign_rest (length names) elements) result (marks_of u).integers refl given))

  pub lassign_fails : (i y : Interruption) (result : Result Text Interruption) → result ≡ Err y → y ≡ i → Interrupts i (λ e. (k : List Text → Program) → GetsToEnd t place (sets_names names elements k) u e) → Acts t place (λ style. lassign args) u result
  lassign_fails i y result e same h =
      subst (λ (xs : List Text). Acts t place (λ style. lassign xs) u result) (sym is)
      (passed_acts t u place (λ style. lassign (list ∷ names)) i y result e same (Interrupts-more i _ _ (λ r g p style at.
      does_read (tree_of t) (tree_of u) p r fault_message (list_of list) elements (λ es. sets_names names es (λ left. answered (lassign_rest (length names) es))) read
      (end_does (g (λ left. answered (lassign_rest (length names) elements)) p at.names))) h))
