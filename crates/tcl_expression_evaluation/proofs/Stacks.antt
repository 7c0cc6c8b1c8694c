-- The values that wait for their operator.
use Rattle.std.proofs.Common.{◌≡◌, ◌∙◌, sym, ap, refl, ℕ, ◌-◌, List, [], ◌∷◌, ◌++◌, length, take, drop, length-append, arith}
use Rattle.std.proofs.Math.Seq.{drop-append_seam, take-append_seam}
use Rattle.tcl_value.specs.Limits.{Bytes}
use Rattle.tcl_expression_evaluation.specs.Steps.{top, below, last_of, without}

pub top_push : (s : List Bytes) (x : Bytes) → top (s ++ x ∷ []) ≡ x
top_push [] x = refl
top_push (a ∷ []) x = refl
top_push (a ∷ b ∷ s) x = top_push (b ∷ s) x

pub below_push : (s : List Bytes) (x : Bytes) → below (s ++ x ∷ []) ≡ s
below_push [] x = refl
below_push (a ∷ []) x = refl
below_push (a ∷ b ∷ s) x = ap (λ y. a ∷ y) (below_push (b ∷ s) x)

seam : (s xs : List Bytes) (n : ℕ) → length xs ≡ n → length (s ++ xs) - n ≡ length s
seam s xs n h = omega (arith, h, length-append s xs)

pub last_push : (s xs : List Bytes) (n : ℕ) → length xs ≡ n → last_of n (s ++ xs) ≡ xs
last_push s xs n h = ap (λ m. drop m (s ++ xs)) (seam s xs n h) ∙ drop-append_seam s xs

pub without_push : (s xs : List Bytes) (n : ℕ) → length xs ≡ n → without n (s ++ xs) ≡ s
without_push s xs n h = ap (λ m. take m (s ++ xs)) (seam s xs n h) ∙ take-append_seam s xs

-- what was popped
pub popped_top : (s t : List Bytes) (x : Bytes) → s ≡ t ++ x ∷ [] → x ≡ top s
popped_top s t x h = sym (ap top h ∙ top_push t x)

pub popped_below : (s t : List Bytes) (x : Bytes) → s ≡ t ++ x ∷ [] → t ≡ below s
popped_below s t x h = sym (ap below h ∙ below_push t x)
