-- Outcomes one behind another.
use Rattle.std.proofs.Common.{◌≡◌, ℕ, ◌≤◌, ℤ, pos, ◌-ℤ◌, w64, to_z, true, cond, arith, List, Ok, Err, Option, Some, None, refl, sym, ◌∙◌, ap, false, length, ◌<◌}
use Rattle.std.specs.Prelude.{ok_or, option_map, nat_le}
use Rattle.std.proofs.lemmas.Int.{ints}
use Rattle.std.proofs.lemmas.Bool.Decides.{nat_tests}
use Rattle.tcl_text.specs.declared.integer.Integers.{Integers}
use Rattle.std.specs.declared.result.Result.{Result}
use Rattle.tcl_words.specs.declared.refusal.Refusal.{Refusal}
use Rattle.tcl_words.specs.declared.refusal.Refusal.TheVariants.{Memory, Fault}
use Rattle.tcl_text.specs.declared.index.Index.{Index}
use Rattle.tcl_text.specs.declared.index.IndexFault.{IndexFault}
use Rattle.tcl_text.specs.declared.index.IndexFault.TheVariants.{BadIndex}
use Rattle.tcl_text.specs.Indexes.{index_of, place}
use Rattle.std.specs.Fmt.{signed_decimal}
use Rattle.tcl_words.specs.Faults.{bad_index, too_long}
use Rattle.tcl_words.specs.Words.{index_or, index_word}
use Rattle.tcl_words.specs.Outcomes.{next, Refuses}
use Rattle.tcl_words.specs.Limits.{limited}

-- a refusal of the first is that of both
pub refuses_next : {X Y : Type 0} (e : Refusal) (outcome : Result X (List ℕ)) (go : X → Result Y (List ℕ)) → Refuses e outcome → Refuses e (next outcome go)
refuses_next Memory outcome go h = tt
refuses_next (Fault text) outcome go h = ap (λ o. next o go) h

-- an error of one kind of value is that of another
pub refuses_at : {X : Type 0} (e : Refusal) (outcome : Result X (List ℕ)) (text : List ℕ) → outcome ≡ Err text → Refuses {X = List ℕ} e (Err text) → Refuses e outcome
refuses_at Memory outcome text same h = tt
refuses_at (Fault told) outcome text same h = let e : text ≡ told = cc in same ∙ ap Err e

-- ---- indexes

pub index_ok : (text : List ℕ) (found : Option ℤ) (to : Index) → Ok to ≡ ok_or (option_map place found) BadIndex → index_or text found ≡ Ok to
index_ok text None to h = let e : Ok to ≡ Err BadIndex = h in absurd (different to e)
  where
    different : (p : Index) → ◌≡◌ {A = Result Index IndexFault} (Ok p) (Err BadIndex) → ⊥
    different p e = cc
index_ok text (Some n) to h = let e : ◌≡◌ {A = Result Index IndexFault} (Ok to) (Ok (place n)) = h in let same : to ≡ place n = cc in ap Ok (sym same)

pub index_err : (text : List ℕ) (found : Option ℤ) (fault : IndexFault) → Err fault ≡ ok_or (option_map place found) BadIndex → index_or text found ≡ Err (bad_index text)
index_err text None fault h = refl
index_err text (Some n) fault h = let e : ◌≡◌ {A = Result Index IndexFault} (Err fault) (Ok (place n)) = h in cc

within : (n : ℕ) → n ≤ 16777216 → nat_le n 16777216 ≡ true
within n h = grind (arith, nat_tests)

-- a count that fits
pub counted : (style : Integers) (count : ℕ) (text : List ℕ) → count ≤ 16777216 → index_word style count text ≡ index_or text (index_of style (pos count -ℤ pos 1) text)
counted style count text h = ap (λ t. cond t (index_or text (index_of style (pos count -ℤ pos 1) text)) (Err too_long)) (within count h)

pub plain_count : (n : ℕ) → n ≤ 16777216 → to_z w64 n ≡ pos n
plain_count n h = omega (arith, ints)

pub count_text : (n : ℕ) → n ≤ 16777216 → ◌≡◌ {A = Result (List ℕ) (List ℕ)} (cond (nat_le n 16777216) (Ok (signed_decimal (pos n))) (Err too_long)) (Ok (signed_decimal (to_z w64 n)))
count_text n h = ap (λ t. cond t (Ok (signed_decimal (pos n))) (Err too_long)) (within n h) ∙ ap (λ (z : ℤ). Ok (signed_decimal z)) (sym (plain_count n h))

-- ---- the limit

pub limited_past : (text : List ℕ) → 16777216 < length text → limited text ≡ Err too_long
limited_past text h = ap (λ t. cond t (Ok text) (Err too_long)) (past (length text) h)
  where
    past : (n : ℕ) → 16777216 < n → nat_le n 16777216 ≡ false
    past n h = grind (arith, nat_tests)

pub limited_within : (text : List ℕ) → length text ≤ 16777216 → limited text ≡ Ok text
limited_within text h = ap (λ t. cond t (Ok text) (Err too_long)) (within (length text) h)
