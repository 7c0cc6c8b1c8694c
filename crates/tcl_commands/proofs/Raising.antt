-- What adding to an integer comes to.
use Rattle.std.proofs.Common.{◌≡◌, ℤ, pos, Bool, true, false, ◌<◌, List, [], ◌∷◌, length, refl, sym, ap, subst, ◌∙◌, arith, FitsSigned, w64}
use Rattle.std.specs.Fmt.{signed_decimal}
use Rattle.std.specs.Prelude.{Option, Some, None, Result, Ok, Err, codes, ◌+ℤ◌}
use Rattle.tcl_core.specs.Endings.{Completion, Reply}
use Rattle.tcl_core.specs.Endings.Reply.{Completed}
use Rattle.tcl_core.specs.Paths.{Text}
use Rattle.tcl_language.specs.Faults.{integer_message}
use Rattle.tcl_language.specs.Instructions.{Program, either, fails, look, or_fails}
use Rattle.tcl_language.specs.Variables as variables
use Rattle.tcl_run.specs.Ends.{Gave, Interrupts, IsFailure, failing}
use Rattle.tcl_run.specs.Plain.{Acts}
use Rattle.tcl_run.proofs.Endings.{Interrupts-more}
use Rattle.tcl_run.specs.declared.interruption.Interruption.{Interruption}
use Rattle.tcl_text.specs.declared.integer.IntegerFault.{IntegerFault}
use Rattle.tcl_text.specs.declared.integer.Integers.{Integers}
use Rattle.tcl_text.specs.Numbers.{fits_64, in_64_bits, integer_of}
use Rattle.tcl_tree.specs.TreeOf.{marks_of}
use Rattle.tcl_tree.specs.declared.tree.Tree.{Tree as Table}
use Rattle.tcl_tree.specs.declared.tree.Place.{Place as TablePlace}
use Rattle.tcl_commands.specs.Growing.{Growth, GrowsTo, finishes, grown}
use Rattle.tcl_commands.specs.Sums.{Number, Reads, added, added_words, increment, number_of, number_or, raised, sum_text}
use Rattle.tcl_value.proofs.Laws.{int_of-number}
use Rattle.tcl_commands.proofs.Growths.{grown_acts, on_growth}
use Rattle.tcl_commands.proofs.Setting.{fits_so}

-- ## What was read

failed : (message : IntegerFault → Text) (read : Result ℤ IntegerFault) (r : Reply) → IsFailure message read r → (c : Completion) × (number_or message read ≡ Err c) × (r ≡ Completed c)
failed message (Ok n) r f = elim f [ ]
failed message (Err g) r f = (failing (message g), refl, f)

pub number_read : (message : IntegerFault → Text) (read : Result ℤ IntegerFault) (result : Result ℤ Interruption) → Gave message read result → Reads (number_or message read) result
number_read message read (Ok n) given = ap (number_or message) given
number_read message read (Err i) given = Interrupts-more i _ _ (λ r f. failed message read r f) given

pub word_read : (style : Integers) (words : List Text) (word : Text) (more : List Text) (result : Result ℤ Interruption) → words ≡ word ∷ more → Reads (number_of style word) result → Reads (increment style words) result
word_read style words word more result e read = subst (λ (xs : List Text). Reads (increment style xs) result) (sym e) read

-- ## Sums

pub sum_there : (z : ℤ) → FitsSigned w64 z → sum_text z ≡ Ok (signed_decimal z)
sum_there z f = ap (λ b. either b (Ok (signed_decimal z)) (Err (failing variables.overflow))) (fits_so z f)

-- the error of reading goes no further
pub added_none : (old now : Text) (number by : Number) (i : Interruption) → now ≡ old → Reads number (Err i) → Interrupts i (λ e. (c : Completion) × (now ≡ old) × (added number by ≡ Err c) × (e ≡ Completed c))
added_none old now number by i same read = Interrupts-more i _ _ (λ r g. (g.0, same, goes number by g.0 g.1, g.2)) read
  where
    goes : (number by : Number) (c : Completion) → number ≡ Err c → added number by ≡ Err c
    goes number by c e = ap (λ (x : Number). added x by) e

pub added_nothing : (old now : Text) (n : ℤ) (number by : Number) (i : Interruption) → now ≡ old → number ≡ Ok n → Reads by (Err i) → Interrupts i (λ e. (c : Completion) × (now ≡ old) × (added number by ≡ Err c) × (e ≡ Completed c))
added_nothing old now n number by i same is read = Interrupts-more i _ _ (λ r g. (g.0, same, (λ j. added (is j) (g.1 j)), g.2)) read

pub added_both : (old now : Text) (n m n2 m2 : ℤ) (number by : Number) (result : Result Text Interruption) → number ≡ Ok n → by ≡ Ok m → n2 ≡ n → m2 ≡ m → GrowsTo old (λ _. sum_text (n2 +ℤ m2)) now result → GrowsTo old (λ _. added number by) now result
added_both old now n m n2 m2 number by result e f same_n same_m grows =
    subst (λ (g : Growth). GrowsTo old (λ _. g) now result) (sums ∙ sym both) grows
  where
    both : added number by ≡ sum_text (n +ℤ m)
    both = λ i. added (e i) (f i)

    sums : sum_text (n2 +ℤ m2) ≡ sum_text (n +ℤ m)
    sums = λ i. sum_text (same_n i +ℤ same_m i)

-- ## `incr`

summed : (b : Bool) (text : Text) (k : Text → Program) → either b (k text) (fails variables.overflow) ≡ on_growth (either b (Ok text) (Err (failing variables.overflow))) k
summed true text k = refl
summed false text k = refl

-- on with the sum of two numbers
abbrev sum_step : ℤ → (Text → Program) → Program
sum_step z k = either (fits_64 z) (k (signed_decimal z)) (fails variables.overflow)

one_step : (message : IntegerFault → Text) (read : Result ℤ IntegerFault) (k : Text → Program) → or_fails message read (λ n. sum_step (n +ℤ pos 1) k) ≡ on_growth (added (number_or message read) (Ok (pos 1))) k
one_step message (Ok n) k = summed (fits_64 (n +ℤ pos 1)) (signed_decimal (n +ℤ pos 1)) k
one_step message (Err f) k = refl

two_step : (message other : IntegerFault → Text) (read by : Result ℤ IntegerFault) (k : Text → Program) →
    or_fails message read (λ n. or_fails other by (λ m. sum_step (n +ℤ m) k)) ≡ on_growth (added (number_or message read) (number_or other by)) k
two_step message other (Ok n) (Ok m) k = summed (fits_64 (n +ℤ m)) (signed_decimal (n +ℤ m)) k
two_step message other (Ok n) (Err f) k = refl
two_step message other (Err f) by k = refl

pub incr_acts : (t u : Table) (place : TablePlace) (args : List Text) (name : Text) (more : List Text) (result : Result Text Interruption) → args ≡ name ∷ more → length more < 2 →
    Acts t place (λ style. look (λ n. finishes n.own (grown (codes "0") n.own.chain name (raised (marks_of t).integers more)))) u result → Acts t place (λ style. variables.incr style args) u result
incr_acts t u place args name [] result e h acts =
    subst (λ (xs : List Text). Acts t place (λ style. variables.incr style xs) u result) (sym e)
    (grown_acts t u place (codes "0") name (λ style. raised style []) (λ style old k. variables.integer style old (λ n. sum_step (n +ℤ pos 1) k))
    (λ style old k. one_step (integer_message old) (in_64_bits (integer_of style old)) k) result acts)
incr_acts t u place args name (word ∷ []) result e h acts =
    subst (λ (xs : List Text). Acts t place (λ style. variables.incr style xs) u result) (sym e)
    (grown_acts t u place (codes "0") name (λ style. raised style (word ∷ [])) (λ style old k. variables.integer style old (λ n. variables.integer style word (λ m. sum_step (n +ℤ m) k)))
    (λ style old k. two_step (integer_message old) (integer_message word) (in_64_bits (integer_of style old)) (in_64_bits (integer_of style word)) k) result acts)
incr_acts t u place args name (word ∷ other ∷ more) result e h acts = absurd (omega arith)

-- a number that is added, or 1
pub few_added : (by : Option ℤ) → length (added_words by) < 2
few_added None = omega arith
few_added (Some n) = omega arith

pub number_is_added : (style : Integers) (n : ℤ) → FitsSigned w64 n → increment style (added_words (Some n)) ≡ Ok n
number_is_added style n fits = ap (number_or (integer_message (signed_decimal n))) (int_of-number style n fits)
