-- Parts of characters from one place to another, the first of them passed first.
use Rattle.std.proofs.Common.{◌≡◌, ℕ, zero, suc, ◌-◌, List, [], ◌∷◌, take, drop, refl, sym, ◌∙◌, ap, arith, take_all}
use Rattle.tcl_text.specs.declared.index.Index.{Index}
use Rattle.tcl_text.specs.declared.index.Index.TheVariants.{Before, At, Beyond}
use Rattle.tcl_words.specs.Spans.{start, from}

drop_from_take : (n m : ℕ) (xs : List ℕ) → drop n (take m xs) ≡ take (m - n) (drop n xs)
drop_from_take zero m xs = let same : m ≡ m - 0 = omega arith in ap (λ k. take k xs) same
drop_from_take (suc n) zero xs = let none : 0 ≡ 0 - suc n = omega arith in ap (λ k. take k (drop (suc n) xs)) none
drop_from_take (suc n) (suc m) [] = sym (take_all (suc m - suc n) [] (omega arith))
drop_from_take (suc n) (suc m) (x ∷ xs) =
    let same : m - n ≡ suc m - suc n = omega arith in
    drop_from_take n m xs ∙ ap (λ k. take k (drop n xs)) same

pub nothing_from : (place : Index) → [] ≡ from {X = ℕ} place []
nothing_from Before = refl
nothing_from (At zero) = refl
nothing_from (At (suc n)) = refl
nothing_from Beyond = refl

pub taken_from : (first : Index) (m : ℕ) (xs : List ℕ) → take (m - start 0 first) (from first xs) ≡ from first (take m xs)
taken_from Before m xs = let same : m - 0 ≡ m = omega arith in ap (λ k. take k xs) same
taken_from (At n) m xs = sym (drop_from_take n m xs)
taken_from Beyond m xs = take_all (m - 0) [] (omega arith)
