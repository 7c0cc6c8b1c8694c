-- How many words there are.
use Rattle.std.proofs.Common.{◌≡◌, suc, ◌%◌, ◌==◌, List, [], ◌∷◌, length, refl, sym, ◌∙◌, ap, arith}
use Rattle.tcl_language.specs.Variables.{is_odd}

pub odd_is : {A : Type 0} (xs : List A) → is_odd xs ≡ (length xs % 2 == 1)
odd_is [] = refl
odd_is (x ∷ []) = refl
odd_is (x ∷ y ∷ xs) = let n : suc (suc (length xs)) % 2 ≡ length xs % 2 = omega arith in odd_is xs ∙ ap (λ m. m == 1) (sym n)
