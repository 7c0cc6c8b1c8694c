-- The last element of a list.
use Rattle.std.proofs.Common.{◌≡◌, ◌-◌, suc, List, ◌∷◌, length, get_or, ap, arith}

pub last_cons : {A : Type 0} (x y : A) (xs : List A) (d : A) → get_or (x ∷ y ∷ xs) (length (x ∷ y ∷ xs) - 1) d ≡ get_or (y ∷ xs) (length (y ∷ xs) - 1) d
last_cons x y xs d =
    let less : suc (suc (length xs)) - 1 ≡ suc (suc (length xs) - 1) = omega arith in
    ap (λ k. get_or (x ∷ y ∷ xs) k d) less
