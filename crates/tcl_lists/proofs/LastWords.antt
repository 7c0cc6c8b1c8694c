-- The last word.
use Rattle.std.proofs.Common.{◌≡◌, ℕ, zero, suc, ◌-◌, ◌<◌, ◌≤◌, List, [], ◌∷◌, length, take, get_or, Ok, Err, refl, sym, ◌∙◌, ap, arith}
use Rattle.tcl_words.specs.declared.refusal.Refusal.{Refusal}
use Rattle.tcl_words.specs.declared.refusal.Refusal.TheVariants.{Memory, Fault}
use Rattle.tcl_words.specs.Outcomes.{Refuses, next}
use Rattle.tcl_words.specs.Faults.{wrong_arguments}
use Rattle.tcl_lists.specs.Lists.{Texts, all_and_last}

pub last_one : (form : List ℕ) (words : Texts) (n : ℕ) (d : List ℕ) → length words ≡ suc n → all_and_last form words ≡ Ok (take n words, get_or words n d)
last_one form [] n d h = absurd (omega arith)
last_one form (x ∷ []) zero d h = refl
last_one form (x ∷ []) (suc n) d h = absurd (omega arith)
last_one form (x ∷ y ∷ words) zero d h = absurd (omega arith)
last_one form (x ∷ y ∷ words) (suc n) d h = ap (λ r. next r (λ p. Ok (x ∷ p.0, p.1))) (last_one form (y ∷ words) n d (omega arith))

-- no words are refused
pub too_few : (r : Refusal) (form : List ℕ) (words : Texts) → length words < 1 → Refuses {X = List ℕ} r (Err (wrong_arguments form)) → Refuses r (all_and_last form words)
too_few Memory form words h k = tt
too_few (Fault told) form [] h k = cc
too_few (Fault told) form (x ∷ words) h k = absurd (omega arith)

pub one_behind : (form : List ℕ) (words : Texts) (a : List ℕ) → 1 ≤ length words → a ≡ get_or words (length words - 1) a → all_and_last form words ≡ Ok (take (length words - 1) words, a)
one_behind form words a h e =
    let size : length words ≡ suc (length words - 1) = omega arith in
    last_one form words (length words - 1) a size ∙ ap (λ x. Ok (take (length words - 1) words, x)) (sym e)
