-- What `exit` comes to.
use Rattle.std.proofs.Common.{◌≡◌, ℤ, List, [], ◌∷◌, sym, subst}
use Rattle.std.specs.Prelude.{Result, Err}
use Rattle.tcl_core.specs.Paths.{Text}
use Rattle.tcl_language.specs.Faults.{integer_message}
use Rattle.tcl_language.specs.Hosting as hosting
use Rattle.tcl_run.specs.Ends.{Gave}
use Rattle.tcl_run.specs.Plain.{Acts}
use Rattle.tcl_run.specs.declared.interruption.Interruption.{Interruption}
use Rattle.tcl_text.specs.Numbers.{in_64_bits, integer_of}
use Rattle.tcl_tree.specs.TreeOf.{marks_of}
use Rattle.tcl_tree.specs.declared.tree.Tree.{Tree as Table}
use Rattle.tcl_tree.specs.declared.tree.Place.{Place as TablePlace}
use Rattle.tcl_commands.proofs.Going.{found_by_reading, passed_acts}

-- a status that is no integer
pub exit_fails : (t : Table) (place : TablePlace) (args : List Text) (word : Text) (i y : Interruption) (result : Result Text Interruption) → args ≡ word ∷ [] → result ≡ Err y → y ≡ i →
    Gave {A = ℤ} (integer_message word) (in_64_bits (integer_of (marks_of t).integers word)) (Err i) → Acts t place (λ style. hosting.exit_with style args) t result
exit_fails t place args word i y result e is same given =
    subst (λ (xs : List Text). Acts t place (λ style. hosting.exit_with style xs) t result) (sym e)
    (passed_acts t t place (λ style. hosting.exit_with style (word ∷ [])) i y result is same
    (found_by_reading t place (integer_message word) (λ style. in_64_bits (integer_of style word)) (Err i) given (λ z style. hosting.exits z)))
