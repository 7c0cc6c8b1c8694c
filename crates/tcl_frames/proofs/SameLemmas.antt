-- Lists that are equal as far as they were compared.
use Rattle.std.proofs.Common.{◌≡◌, ℕ, zero, suc, ◌+◌, List, [], ◌∷◌, take, slice_get, refl, ap, add-one}

more : {A : Type 0} (xs ys : List A) (i : ℕ) → take i xs ≡ take i ys → slice_get xs i ≡ slice_get ys i → take (suc i) xs ≡ take (suc i) ys
more [] [] i h e = refl
more [] (y ∷ ys) zero h e = absurd (cc)
more [] (y ∷ ys) (suc i) h e = absurd (cc)
more (x ∷ xs) [] zero h e = absurd (cc)
more (x ∷ xs) [] (suc i) h e = absurd (cc)
more (x ∷ xs) (y ∷ ys) zero h e = let same : x ≡ y = cc in ap (λ z. z ∷ []) same
more (x ∷ xs) (y ∷ ys) (suc i) h e =
    let same : x ≡ y = cc in
    let before : take i xs ≡ take i ys = cc in
    let rest = more xs ys i before e in
    cc

-- one more item is equal
pub same_more : {A : Type 0} (xs ys : List A) (i : ℕ) → take i xs ≡ take i ys → slice_get xs i ≡ slice_get ys i → take (i + 1) xs ≡ take (i + 1) ys
same_more xs ys i h e = rw add-one (more xs ys i h e)
