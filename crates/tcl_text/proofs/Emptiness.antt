-- What tests for nothing tell.
use Rattle.std.proofs.Common.{◌≡◌, ◌==◌, ℕ, ◌<◌, ◌≤◌, Bool, true, false, List, [], ◌∷◌, length, refl, sym, ◌∙◌, arith}
use Rattle.std.proofs.lemmas.Bool.{false≢true}
use Rattle.std.proofs.lemmas.Bool.Decides.{nat_tests, Decides-eqb}

pub zero_is : (n : ℕ) (b : Bool) → b ≡ (n == 0) → b ≡ true → n ≡ 0
zero_is n b h e = grind (arith, nat_tests)

pub some_is : (n : ℕ) (b : Bool) → b ≡ (n == 0) → b ≡ false → 1 ≤ n
some_is n b h e = grind (arith, nat_tests)

pub is_nothing : (text : List ℕ) (empty : Bool) → empty ≡ (length text == 0) → empty ≡ true → text ≡ []
is_nothing [] empty e h = refl
is_nothing (b ∷ text) empty e h = let x : length (b ∷ text) ≡ 0 = (Decides-eqb (length (b ∷ text)) 0).0 (sym e ∙ h) in absurd (omega arith)

pub is_filled : (text : List ℕ) (empty : Bool) → empty ≡ (length text == 0) → empty ≡ false → 0 < length text
is_filled [] empty e h = absurd (false≢true (sym h ∙ e))
is_filled (b ∷ text) empty e h = omega arith
