-- Abbreviations of words.
use Rattle.std.proofs.Common.{◌≡◌, ℕ, suc, zero, ◌<◌, ◌≤◌, true, false, List, [], ◌∷◌, length, get_or, refl, ap, arith}
use Rattle.std.specs.Prelude.{◌==◌, ◌&&◌, ◌≢◌}
use Rattle.std.specs.Char.{to_ascii_lowercase}
use Rattle.std.proofs.lemmas.Bool.Decides.{Decides-eqb}
use Rattle.std.proofs.lemmas.Bool.{ne_eqb}
use Rattle.tcl_text.specs.Booleans.{abbreviates}
use Rattle.tcl_text.proofs.Digits.{and_true, and_false}

pub longer : (text word : List ℕ) → length word < length text → abbreviates text word ≡ false
longer [] word h = absurd (omega arith)
longer (c ∷ cs) [] h = refl
longer (c ∷ cs) (d ∷ ds) h = and_false _ _ (longer cs ds (omega arith))

same : (a b : ℕ) → a ≡ b → (a == b) ≡ true
same a b h = (Decides-eqb a b).1 h

pub all_fit : (text word : List ℕ) → length text ≤ length word → ((k : ℕ) → k < length text → to_ascii_lowercase (get_or text k 0) ≡ get_or word k 0) → abbreviates text word ≡ true
all_fit [] word h f = refl
all_fit (c ∷ cs) [] h f = absurd (omega arith)
all_fit (c ∷ cs) (d ∷ ds) h f = and_true _ _ (same _ _ (f zero (omega arith))) (all_fit cs ds (omega arith) (λ k l. f (suc k) (omega arith)))

pub one_differs : (text word : List ℕ) (k : ℕ) → k < length text → to_ascii_lowercase (get_or text k 0) ≢ get_or word k 0 → abbreviates text word ≡ false
one_differs [] word k h d = absurd (omega arith)
one_differs (c ∷ cs) [] k h d = refl
one_differs (c ∷ cs) (e ∷ es) zero h d = ap (λ t. t && abbreviates cs es) (ne_eqb _ _ d)
one_differs (c ∷ cs) (e ∷ es) (suc k) h d = and_false _ _ (one_differs cs es k (omega arith) d)
