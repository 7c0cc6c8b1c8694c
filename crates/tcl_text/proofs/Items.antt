-- Lists by their items.
use Rattle.std.proofs.Common.{◌≡◌, ℕ, zero, suc, ◌+◌, ◌-◌, ◌<◌, ◌≤◌, List, [], ◌∷◌, take, drop, get_or, length, Some, None, refl, sym, ◌∙◌, ap, arith, add-one}
use Rattle.std.specs.Prelude.{slice_get}
use Rattle.std.proofs.Math.Seq.{drop-cons, take-length}
use Rattle.std.proofs.Math.ListN.{drop_of_length-le}

module _ {A : Type 0} where
  pub no_item : (xs : List A) → length xs < 1 → xs ≡ []
  no_item [] h = refl
  no_item (y ∷ ys) h = absurd (omega arith)

  pub one_item : (xs : List A) (x : A) → 1 ≤ length xs → length xs < 2 → x ≡ get_or xs 0 x → xs ≡ x ∷ []
  one_item [] x h k e = absurd (omega arith)
  one_item (y ∷ []) x h k e = ap (λ z. z ∷ []) (sym e)
  one_item (y ∷ z ∷ zs) x h k e = absurd (omega arith)

  pub two_items : (xs : List A) (x y : A) → 2 ≤ length xs → length xs < 3 → x ≡ get_or xs 0 x → y ≡ get_or xs 1 y → xs ≡ x ∷ y ∷ []
  two_items [] x y h k e d = absurd (omega arith)
  two_items (a ∷ []) x y h k e d = absurd (omega arith)
  two_items (a ∷ b ∷ []) x y h k e d = ap (λ z. z ∷ b ∷ []) (sym e) ∙ ap (λ z. x ∷ z ∷ []) (sym d)
  two_items (a ∷ b ∷ c ∷ cs) x y h k e d = absurd (omega arith)

  pub three_items : (xs : List A) (x y z : A) → 3 ≤ length xs → length xs < 4 → x ≡ get_or xs 0 x → y ≡ get_or xs 1 y → z ≡ get_or xs 2 z → xs ≡ x ∷ y ∷ z ∷ []
  three_items [] x y z h k e d f = absurd (omega arith)
  three_items (a ∷ bs) x y z h k e d f = ap (λ w. w ∷ bs) (sym e) ∙ ap (λ ws. x ∷ ws) (two_items bs y z (omega arith) (omega arith) d f)

  pub four_items : (xs : List A) (x y z w : A) → 4 ≤ length xs → length xs < 5 → x ≡ get_or xs 0 x → y ≡ get_or xs 1 y → z ≡ get_or xs 2 z → w ≡ get_or xs 3 w → xs ≡ x ∷ y ∷ z ∷ w ∷ []
  four_items [] x y z w h k e d f b = absurd (omega arith)
  four_items (a ∷ bs) x y z w h k e d f b = ap (λ v. v ∷ bs) (sym e) ∙ ap (λ ws. x ∷ ws) (three_items bs y z w (omega arith) (omega arith) d f b)

  -- a first item, and those behind it
  pub first_item : (xs : List A) (x : A) → 1 ≤ length xs → x ≡ get_or xs 0 x → xs ≡ x ∷ drop 1 xs
  first_item [] x h e = absurd (omega arith)
  first_item (y ∷ ys) x h e = ap (λ z. z ∷ ys) (sym e)

  pub split_first : (xs : List A) (x : A) → 1 ≤ length xs → x ≡ get_or xs 0 x → xs ≡ x ∷ take (length xs - 1) (drop 1 xs)
  split_first [] x h e = absurd (omega arith)
  split_first (y ∷ ys) x h e =
      let n : length (y ∷ ys) - 1 ≡ length ys = omega arith in
      ap (λ z. z ∷ ys) (sym e) ∙ ap (λ zs. x ∷ zs) (sym (ap (λ m. take m ys) n ∙ take-length ys))

  -- an item at a place, and those behind it
  pub item_on : (xs : List A) (i : ℕ) (x : A) → i < length xs → x ≡ get_or xs i x → drop i xs ≡ x ∷ drop (i + 1) xs
  item_on xs i x h e = drop-cons xs i x h ∙ ap (λ z. z ∷ drop (suc i) xs) (sym e) ∙ ap (λ j. x ∷ drop j xs) (sym (add-one i))

  pub drop_at : (xs : List A) (i : ℕ) (x : A) → slice_get xs i ≡ Some x → drop i xs ≡ x ∷ drop (suc i) xs
  drop_at [] i x e = let clash : None ≡ Some x = e in cc
  drop_at (y ∷ ys) zero x e = let same : y ≡ x = cc in ap (λ z. z ∷ ys) same
  drop_at (y ∷ ys) (suc i) x e = drop_at ys i x e

  -- none is left
  pub none_on : (xs : List A) (i : ℕ) → length xs ≤ i → drop i xs ≡ []
  none_on xs i h = drop_of_length-le xs h
