-- What is in order from behind.
use Rattle.std.proofs.Common.{◌≡◌, ◌+◌, ◌-◌, Bool, true, false, cond, List, [], ◌∷◌, ◌++◌, length, reverse, get_or, refl, sym, ◌∙◌, ap, subst, arith}
use Rattle.std.specs.Prelude.{not, ◌&&◌, filter}
use Rattle.std.specs.declared.cmp.Ordering.{Ordering}
use Rattle.std.specs.List.Sorted.{IsPermutation, IsSortedBy, IsStableBy, ties}
use Rattle.std.proofs.lemmas.List.{get_or-reverse, length-reverse, reverse-reverse, reverse-append, append-nil}
use Rattle.std.proofs.lemmas.List.Elements.{filter-append}
use Rattle.std.specs.Ordering.{is_lt}
use Rattle.std.proofs.lemmas.List.Sorted.{IsPermutation-reverse, IsPermutation-trans}
use Rattle.tcl_lists.specs.Sorting.{is_before, IsOrdered}

and_comm : (a b : Bool) → (a && b) ≡ (b && a)
and_comm true true = refl
and_comm true false = refl
and_comm false true = refl
and_comm false false = refl

last_kept : {X : Type 0} (t : Bool) (x : X) (ys : List X) → reverse ys ++ cond t (x ∷ []) [] ≡ reverse (cond t (x ∷ ys) ys)
last_kept true x ys = sym (reverse-append (x ∷ []) ys)
last_kept false x ys = append-nil (reverse ys)

filter-reverse : {X : Type 0} (p : X → Bool) (xs : List X) → filter p (reverse xs) ≡ reverse (filter p xs)
filter-reverse p [] = refl
filter-reverse p (x ∷ xs) = ap (filter p) (reverse-append (x ∷ []) xs) ∙ (filter-append p (reverse xs) (x ∷ []) ∙ (ap (λ l. l ++ filter p (x ∷ [])) (filter-reverse p xs) ∙ last_kept (p x) x (filter p xs)))

filter_same : {X : Type 0} (p q : X → Bool) (xs : List X) → ((y : X) → p y ≡ q y) → filter p xs ≡ filter q xs
filter_same p q xs e = ap (λ f. filter f xs) (λ i y. e y i)

ties_flip : {X : Type 0} (cmp : X → X → Ordering) (x y : X) → ties (is_before cmp true) x y ≡ ties (is_before cmp false) x y
ties_flip cmp x y = and_comm (not (is_lt (cmp y x))) (not (is_lt (cmp x y)))

sorted_back : {X : Type 0} (cmp : X → X → Ordering) (m : List X) → IsSortedBy (is_before cmp false) m → IsSortedBy (is_before cmp true) (reverse m)
sorted_back cmp m s = λ k d low high.
    let size : length (reverse m) ≡ length m = length-reverse m in
    let j = length m - 1 - (k + 1) in
    let here : get_or (reverse m) k d ≡ get_or m (j + 1) d = get_or-reverse m k d (omega arith) ∙ ap (λ i. get_or m i d) (let e : length m - 1 - k ≡ length m - 1 - (k + 1) + 1 = omega arith in e) in
    let after : get_or (reverse m) (k + 1) d ≡ get_or m j d = get_or-reverse m (k + 1) d (omega arith) in
    ap (λ x. is_lt (cmp x (get_or (reverse m) (k + 1) d))) here ∙ (ap (λ y. is_lt (cmp (get_or m (j + 1) d) y)) after ∙ s j d (omega arith) (omega arith))

-- a list whose reverse was put in order is in the opposite order from behind
pub opposite : {X : Type 0} (cmp : X → X → Ordering) (l r m n : List X) → r ≡ reverse l → n ≡ reverse m → IsPermutation r m → IsSortedBy (λ x y. is_lt (cmp x y)) m → IsStableBy (λ x y. is_lt (cmp x y)) r m → IsOrdered (is_before cmp true) l n
opposite {X} cmp l r m n e f p s t = subst (λ (o : List X). IsOrdered (is_before cmp true) l o) (sym f) (at_reverse (subst (λ (o : List X). IsPermutation o m) e p) (subst (λ (o : List X). IsStableBy (λ x y. is_lt (cmp x y)) o m) e t))
  where
    at_reverse : IsPermutation (reverse l) m → IsStableBy (λ x y. is_lt (cmp x y)) (reverse l) m → IsOrdered (is_before cmp true) l (reverse m)
    at_reverse p t = record {
      permutation = IsPermutation-trans l (reverse l) (reverse m) (IsPermutation-reverse l) (IsPermutation-trans (reverse l) m (reverse m) p (IsPermutation-reverse m));
      ordered = sorted_back cmp m s;
      stable = λ x.
          let down = ties (is_before cmp true) x in
          let up = ties (is_before cmp false) x in
          filter-reverse down m ∙ (ap reverse (filter_same down up m (ties_flip cmp x) ∙ (t x ∙ (sym (filter_same down up (reverse l) (ties_flip cmp x)) ∙ filter-reverse down l))) ∙ reverse-reverse (filter down l));
    }
