-- What the commands come to that set variables.
use Rattle.std.proofs.Common.{◌≡◌, ℤ, pos, negsuc, true, false, ◌<◌, ◌^◌, List, [], ◌∷◌, Some, sym, ap, subst, ◌∙◌, arith, FitsSigned, w64, to_z, of_z, length, get_or, ◌≤◌, inl, inr}
use Rattle.std.proofs.lemmas.Bool.Decides.{nat_tests}
use Rattle.std.proofs.lemmas.Int.{ints, to_z-of_z}
use Rattle.std.specs.Prelude.{Result, Ok, Err, Option, codes, IfOk}
use Rattle.tcl_core.specs.Endings.{Completion, ok}
use Rattle.tcl_core.specs.Endings.Reply.{Completed}
use Rattle.tcl_core.specs.Paths.{Path, Text}
use Rattle.tcl_core.specs.Programs.Prog.{done}
use Rattle.tcl_core.specs.Trees.{Node}
use Rattle.tcl_frames.specs.Chain.{read}
use Rattle.tcl_language.specs.Faults.{frame_message, integer_message}
use Rattle.tcl_language.specs.Instructions.{either, look, or_fails}
use Rattle.tcl_language.specs.Variables as variables
use Rattle.tcl_run.specs.Ends.{Gave, Interrupts}
use Rattle.tcl_run.specs.Plain.{Acts}
use Rattle.tcl_run.specs.declared.interruption.Interruption.{Interruption}
use Rattle.tcl_text.specs.declared.integer.Integers.{Integers}
use Rattle.tcl_text.specs.Numbers.{fits_64, in_64_bits, integer_of}
use Rattle.tcl_text.proofs.Fitting.{read_fits}
use Rattle.tcl_tree.specs.Own.{Own}
use Rattle.tcl_tree.specs.TreeOf.{tree_of, marks_of, Names}
use Rattle.tcl_tree.proofs.PathLemmas.{text_cases}
use Rattle.tcl_tree.specs.declared.tree.Tree.{Tree as Table}
use Rattle.tcl_tree.specs.declared.tree.Place.{Place as TablePlace}
use Rattle.tcl_commands.specs.Steps.{Styled, EndsAt, Leads, Finds}
use Rattle.tcl_commands.proofs.Going.{ends_done, found_by_look, found_by_reading, found_acts, passed_acts}

-- a variable is read
pub read_acts : (t : Table) (place : TablePlace) (name : Text) (result : Result Text Interruption) →
    ((p : Path) (n : Node Own) → Names t place p → tree_of t p ≡ Some n → Gave frame_message (read n.own.chain.frames name) result) →
    Acts t place (λ style. look (λ n. or_fails frame_message (read n.own.chain.frames name) (λ value. done (ok value)))) t result
read_acts t place name result given =
    found_acts t t place (λ rest style. look (λ n. or_fails frame_message (read n.own.chain.frames name) (λ value. rest value style))) result
    (found_by_look t place frame_message (λ n. read n.own.chain.frames name) result given)

pub set_reads : (t : Table) (place : TablePlace) (args : List Text) (name : Text) (result : Result Text Interruption) → args ≡ name ∷ [] →
    ((p : Path) (n : Node Own) → Names t place p → tree_of t p ≡ Some n → Gave frame_message (read n.own.chain.frames name) result) → Acts t place (λ style. variables.set args) t result
set_reads t place args name result e given = subst (λ (xs : List Text). Acts t place (λ style. variables.set xs) t result) (sym e) (read_acts t place name result given)

pub append_reads : (t : Table) (place : TablePlace) (args : List Text) (name : Text) (result : Result Text Interruption) → args ≡ name ∷ [] →
    ((p : Path) (n : Node Own) → Names t place p → tree_of t p ≡ Some n → Gave frame_message (read n.own.chain.frames name) result) → Acts t place (λ style. variables.append args) t result
append_reads t place args name result e given = subst (λ (xs : List Text). Acts t place (λ style. variables.append xs) t result) (sym e) (read_acts t place name result given)

-- what stands before an end
pub led : (old new : Table) (place : TablePlace) (whole : Styled) (c : Completion) → Leads old place whole new (λ style. done c) → EndsAt old place whole (tree_of new) (Completed c)
led old new place whole c leads = leads (tree_of new) (Completed c) (ends_done new place c)

-- a variable is set
pub set_sets : (t u : Table) (place : TablePlace) (args : List Text) (name value given : Text) → args ≡ name ∷ value ∷ [] → given ≡ value →
    ((rest : Styled) → Leads t place (λ style. variables.sets name value (rest style)) u rest) → EndsAt t place (λ style. variables.set args) (tree_of u) (Completed (ok given))
set_sets t u place args name value given e same leads =
    subst (λ (x : Text). EndsAt t place (λ style. variables.set args) (tree_of u) (Completed (ok x))) (sym same)
    (subst (λ (xs : List Text). EndsAt t place (λ style. variables.set xs) (tree_of u) (Completed (ok value))) (sym e)
    (led t u place (λ style. variables.set (name ∷ value ∷ [])) (ok value) (leads (λ style. done (ok value)))))

pub set_passes : (t u : Table) (place : TablePlace) (args : List Text) (name value : Text) (i y : Interruption) (result : Result Text Interruption) → args ≡ name ∷ value ∷ [] → result ≡ Err y → y ≡ i →
    ((rest : Styled) → Interrupts i (EndsAt t place (λ style. variables.sets name value (rest style)) (tree_of u))) → Acts t place (λ style. variables.set args) u result
set_passes t u place args name value i y result e is same ends =
    subst (λ (xs : List Text). Acts t place (λ style. variables.set xs) u result) (sym e) (passed_acts t u place (λ style. variables.set (name ∷ value ∷ [])) i y result is same (ends (λ style. done (ok value))))

-- ## Integers

pub integer_finds : (t : Table) (place : TablePlace) (text : Text) (own : Integers) (result : Result ℤ Interruption) → own ≡ (marks_of t).integers → Gave (integer_message text) (in_64_bits (integer_of own text)) result →
    Finds t place (λ rest style. variables.integer style text (λ n. rest n style)) t result
integer_finds t place text own result same given =
    found_by_reading t place (integer_message text) (λ style. in_64_bits (integer_of style text)) result (subst (λ (s : Integers). Gave (integer_message text) (in_64_bits (integer_of s text)) result) same given)

-- a number that fits 64 bits

pub fits_so : (z : ℤ) → FitsSigned w64 z → fits_64 z ≡ true
fits_so (pos n) f = let small : n < 2 ^ 63 = omega (arith, ints) in grind (arith, nat_tests)
fits_so (negsuc n) f = let small : n < 2 ^ 63 = omega (arith, ints) in grind (arith, nat_tests)

pub given_fits : (text : Text) (o : Option ℤ) (n : ℤ) → Gave (integer_message text) (in_64_bits o) (Ok n) → FitsSigned w64 n
given_fits text o n given = read_fits o n given

pub integer_fits : (text : Text) (o : Option ℤ) (result : Result ℤ Interruption) → Gave (integer_message text) (in_64_bits o) result → IfOk result (λ n. FitsSigned w64 n)
integer_fits text o (Ok n) given = read_fits o n given
integer_fits text o (Err i) given = tt

-- a number that was handed on
pub handed : (n : ℤ) → FitsSigned w64 n → to_z w64 (of_z w64 n) ≡ n
handed n f = to_z-of_z w64 n f

-- ## `unset`

pub unset_plain : (args : List Text) (word : Text) (found : List Text) → 1 ≤ length args → word ≡ get_or args 0 word → (word ≡ codes "-nocomplain" → ⊥) →
    variables.after_dashes false args ≡ variables.unset_all false found → variables.unset args ≡ variables.unset_all false found
unset_plain [] word found h is other e = absurd (omega arith)
unset_plain (w ∷ ws) word found h is other e = elim (text_cases w (codes "-nocomplain")) [
  | inl x ↦ absurd (other (is ∙ x.0))
  | inr x ↦ ap (λ b. either b (variables.after_dashes true ws) (variables.after_dashes false (w ∷ ws))) x.1 ∙ e
]
