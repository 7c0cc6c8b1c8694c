-- Maps and interpreters that are equal as far as they were compared.
use Rattle.std.proofs.Common.{◌≡◌, ℕ, zero, suc, ◌+◌, ◌≤◌, List, [], ◌∷◌, length, take, refl, ap, add-one, arith, Some}
use Rattle.std.specs.Prelude.{slice_get}
use Rattle.std.specs.Map.{keys_of}

more : {A : Type 0} (xs ys : List A) (i : ℕ) (x : A) → take i xs ≡ take i ys → slice_get xs i ≡ Some x → slice_get ys i ≡ Some x → take (suc i) xs ≡ take (suc i) ys
more [] ys i x h e f = absurd (cc)
more (a ∷ xs) [] i x h e f = absurd (cc)
more (a ∷ xs) (b ∷ ys) zero x h e f = let same : a ≡ b = cc in ap (λ z. z ∷ []) same
more (a ∷ xs) (b ∷ ys) (suc i) x h e f =
    let same : a ≡ b = cc in
    let before : take i xs ≡ take i ys = cc in
    let rest = more xs ys i x before e f in
    cc

-- one more item is equal
pub same_more : {A : Type 0} (xs ys : List A) (i : ℕ) (x : A) → take i xs ≡ take i ys → slice_get xs i ≡ Some x → slice_get ys i ≡ Some x → take (i + 1) xs ≡ take (i + 1) ys
same_more xs ys i x h e f = rw add-one (more xs ys i x h e f)

-- the name of an entry stands where the entry does
pub name_at : {K V : Type 0} (es : List (K × V)) (i : ℕ) (k : K) (v : V) → slice_get es i ≡ Some (k, v) → slice_get (keys_of es) i ≡ Some k
name_at [] i k v e = absurd (cc)
name_at (x ∷ es) zero k v e = let same : x ≡ (k, v) = cc in ap (λ y. Some y.0) same
name_at (x ∷ es) (suc i) k v e = name_at es i k v e

pub names_length : {K V : Type 0} (es : List (K × V)) → length (keys_of es) ≡ length es
names_length [] = refl
names_length (x ∷ es) = ap suc (names_length es)

-- lists that are equal as far as both go
pub same_all : {A : Type 0} (xs ys : List A) (n : ℕ) → length xs ≤ n → length ys ≤ n → take n xs ≡ take n ys → xs ≡ ys
same_all [] [] n a b h = refl
same_all [] (y ∷ ys) zero a b h = absurd (omega arith)
same_all [] (y ∷ ys) (suc n) a b h = absurd (cc)
same_all (x ∷ xs) [] zero a b h = absurd (omega arith)
same_all (x ∷ xs) [] (suc n) a b h = absurd (cc)
same_all (x ∷ xs) (y ∷ ys) zero a b h = absurd (omega arith)
same_all (x ∷ xs) (y ∷ ys) (suc n) a b h =
    let same : x ≡ y = cc in
    let before : take n xs ≡ take n ys = cc in
    let rest = same_all xs ys n (omega arith) (omega arith) before in
    cc

-- where two lists have other items, they differ
pub differ_at : {A : Type 0} (xs ys : List A) (i : ℕ) (x y : A) → slice_get xs i ≡ Some x → slice_get ys i ≡ Some y → xs ≡ ys → x ≡ y
differ_at xs ys i x y e f same = let g = ap (λ zs. slice_get zs i) same in cc
