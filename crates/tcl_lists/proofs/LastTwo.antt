-- The last two words.
use Rattle.std.proofs.Common.{◌≡◌, ℕ, zero, suc, ◌-◌, ◌<◌, ◌≤◌, List, [], ◌∷◌, length, take, get_or, Ok, Err, refl, ◌∙◌, ap, arith}
use Rattle.tcl_words.specs.declared.refusal.Refusal.{Refusal}
use Rattle.tcl_words.specs.declared.refusal.Refusal.TheVariants.{Memory, Fault}
use Rattle.tcl_words.specs.Outcomes.{Refuses, next}
use Rattle.tcl_words.specs.Faults.{wrong_arguments}
use Rattle.tcl_lists.specs.Lists.{Texts}
use Rattle.tcl_lists.specs.SearchOptions.{all_and_two}

pub last_two : (form : List ℕ) (words : Texts) (n : ℕ) (a b : List ℕ) → length words ≡ suc (suc n) → all_and_two form words ≡ Ok (take n words, get_or words n a, get_or words (suc n) b)
last_two form [] n a b h = absurd (omega arith)
last_two form (x ∷ []) n a b h = absurd (omega arith)
last_two form (x ∷ y ∷ []) zero a b h = refl
last_two form (x ∷ y ∷ []) (suc n) a b h = absurd (omega arith)
last_two form (x ∷ y ∷ z ∷ words) zero a b h = absurd (omega arith)
last_two form (x ∷ y ∷ z ∷ words) (suc n) a b h = ap (λ r. next r (λ p. Ok (x ∷ p.0, p.1, p.2))) (last_two form (y ∷ z ∷ words) n a b (omega arith))

-- fewer than two words are refused
pub too_few : (r : Refusal) (form : List ℕ) (words : Texts) → length words < 2 → Refuses {X = List ℕ} r (Err (wrong_arguments form)) → Refuses r (all_and_two form words)
too_few Memory form words h k = tt
too_few (Fault told) form [] h k = cc
too_few (Fault told) form (x ∷ []) h k = cc
too_few (Fault told) form (x ∷ y ∷ words) h k = absurd (omega arith)

at_places : (form : List ℕ) (words : Texts) (n : ℕ) (a b : List ℕ) → length words ≡ suc (suc n) → a ≡ get_or words n a → b ≡ get_or words (suc n) b → all_and_two form words ≡ Ok (take n words, a, b)
at_places form words n a b size e f = cc (last_two form words n a b size)

-- the last two of at least two words
pub two_behind : (form : List ℕ) (words : Texts) (a b : List ℕ) → 2 ≤ length words → a ≡ get_or words (length words - 2) a → b ≡ get_or words (length words - 1) b → all_and_two form words ≡ Ok (take (length words - 2) words, a, b)
two_behind form words a b h e f =
    at_places form words (length words - 2) a b (omega arith) e (f ∙ ap (λ k. get_or words k b) (let same : length words - 1 ≡ suc (length words - 2) = omega arith in same))
