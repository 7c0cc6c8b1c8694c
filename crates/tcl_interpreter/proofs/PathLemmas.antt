-- Lemmas on paths.
use Rattle.std.proofs.Common.{◌≡◌, ℕ, ◌+◌, ◌-◌, ◌<◌, ◌≤◌, Bool, true, false, ◌&&◌, [], ◌∷◌, ◌++◌, length, take, refl, sym, ◌∙◌, ap, subst, inl, inr, arith, length-append, append-nil, zero, suc, nat_lt, Some}
use Rattle.std.specs.Prelude.{◌≢◌, ◌⊎◌, nat_eq}
use Rattle.std.specs.Bool.{Decides}
use Rattle.std.specs.Str.{bytes_eq}
use Rattle.std.proofs.lemmas.Slice.Eq.{bytes_eq-Decides, slice_eq-Decides}
use Rattle.std.proofs.Math.Seq.{append_snoc}
use Rattle.std.proofs.lemmas.Grind.{common_steps}
use Rattle.std.proofs.lemmas.Bool.Decides.{nat_tests}
use Rattle.tcl_core.specs.Paths.{same, rise, rejoined}
use Rattle.tcl_core.proofs.PathLaws.{same-refl, same-sound, rise_past}
use Rattle.tcl_interpreter.specs.Paths.{Text, Path, path_eq, is_above, ancestor}

-- a proof for each path, from one for the empty path and a step at the end
module _ (P : Path → Type 0) (base : P []) (step : (p : Path) (n : Text) → P p → P (p ++ n ∷ [])) where
  go : (rest done : Path) → P done → P (done ++ rest)
  go [] done h = grind (arith, common_steps, h)
  go (n ∷ rest) done h = subst P (append_snoc done n rest) (go rest (done ++ n ∷ []) (step done n h))

  pub snoc_ind : (p : Path) → P p
  snoc_ind p = go p [] base

pub record Ends (p : Path) : Type 0 where
  pub front : Path
  pub last : Text
  pub is : p ≡ front ++ last ∷ []

pub ends_cases : (p : Path) → (p ≡ []) ⊎ Ends p
ends_cases = snoc_ind (λ p. (p ≡ []) ⊎ Ends p) (inl refl) (λ p n _. inr (record { front = p; last = n; is = refl }))

pub snoc_not_empty : (p : Path) (n : Text) → p ++ n ∷ [] ≢ []
snoc_not_empty p n e = let l = ap length e in omega (arith, length-append p (n ∷ []), l)

pub snoc_same : (p q : Path) (n m : Text) → p ++ n ∷ [] ≡ q ++ m ∷ [] → (p ≡ q) × (n ≡ m)
snoc_same [] [] n m e = (refl, cc)
snoc_same [] (y ∷ q) n m e = let t : [] ≡ q ++ m ∷ [] = cc in absurd (snoc_not_empty q m (sym t))
snoc_same (x ∷ p) [] n m e = let t : p ++ n ∷ [] ≡ [] = cc in absurd (snoc_not_empty p n t)
snoc_same (x ∷ p) (y ∷ q) n m e =
    let t : p ++ n ∷ [] ≡ q ++ m ∷ [] = cc in
    let h = snoc_same p q n m t in
    (cc, h.1)

pub snoc_longer : (p : Path) (n : Text) → p ++ n ∷ [] ≢ p
snoc_longer p n e = let l = ap length e in omega (arith, length-append p (n ∷ []), l)

pub path_cases : (p q : Path) → ((p ≡ q) × (path_eq p q ≡ true)) ⊎ ((p ≢ q) × (path_eq p q ≡ false))
unfolding path_eq
path_cases p q = by (path_eq p q) (slice_eq-Decides bytes_eq-Decides p q (path_eq p q) refl)
  where
    by : (b : Bool) → Decides b (p ≡ q) → ((p ≡ q) × (b ≡ true)) ⊎ ((p ≢ q) × (b ≡ false))
    by true d = inl (d.0 refl, refl)
    by false d = inr (λ e. let x : false ≡ true = d.1 e in cc, refl)

pub text_cases : (p q : Text) → ((p ≡ q) × (bytes_eq p q ≡ true)) ⊎ ((p ≢ q) × (bytes_eq p q ≡ false))
text_cases p q = by (bytes_eq p q) (bytes_eq-Decides p q)
  where
    by : (b : Bool) → Decides b (p ≡ q) → ((p ≡ q) × (b ≡ true)) ⊎ ((p ≢ q) × (b ≡ false))
    by true d = inl (d.0 refl, refl)
    by false d = inr (λ e. let x : false ≡ true = d.1 e in cc, refl)

pub ancestor_length : (p : Path) (level : ℕ) → level ≤ length p → length (ancestor p level) ≡ length p - level
unfolding ancestor
ancestor_length p level h = grind (arith, common_steps)

pub ancestor_front : (p : Path) (level : ℕ) (front : Path) (last : Text) → level < length p → ancestor p level ≡ front ++ last ∷ [] → ancestor p (level + 1) ≡ front
unfolding ancestor
ancestor_front p level front last h e =
    let l = ap length e in
    let a = length-append front (last ∷ []) in
    let t : length (take (length p - level) p) ≡ length p - level = grind (arith, common_steps) in
    let n : length front ≡ length p - (level + 1) = omega arith in
    let s : take (length front) (take (length p - level) p) ≡ take (length front) (front ++ last ∷ []) = ap (take (length front)) e in
    let x : take (length front) (front ++ last ∷ []) ≡ front = grind (arith, common_steps) in
    let y : take (length front) (take (length p - level) p) ≡ take (length front) p = grind (arith, common_steps) in
    ap (λ m. take m p) (sym n) ∙ sym y ∙ s ∙ x

pub ancestor_itself : (p : Path) → ancestor p 0 ≡ p
unfolding ancestor
ancestor_itself p = grind (arith, common_steps)

above_take : (q p : Path) → is_above q p ≡ true → (q ≡ take (length q) p) × (length q ≤ length p)
unfolding is_above
above_take [] p e = (refl, omega arith)
above_take (n ∷ q) [] e = let x : false ≡ true = e in cc
above_take (n ∷ q) (m ∷ p) e = by (text_cases n m) e (above_take q p)
  where
    by : ((n ≡ m) × (bytes_eq n m ≡ true)) ⊎ ((n ≢ m) × (bytes_eq n m ≡ false)) → (bytes_eq n m && is_above q p) ≡ true → (is_above q p ≡ true → (q ≡ take (length q) p) × (length q ≤ length p))
        → (n ∷ q ≡ take (length (n ∷ q)) (m ∷ p)) × (length (n ∷ q) ≤ length (m ∷ p))
    by (inl w) f ih =
        let h = ih (sym (ap (λ b. b && is_above q p) w.1) ∙ f) in
        let l = h.1 in
        ((λ i. w.0 i ∷ h.0 i), omega arith)
    by (inr w) f ih = let x : false ≡ true = sym (ap (λ b. b && is_above q p) w.1) ∙ f in cc

pub above_fits : (q p : Path) → is_above q p ≡ true → length q ≤ length p
above_fits q p e = (above_take q p e).1

-- what is above p, and stands so many levels higher, is that ancestor
pub above_same : (p q : Path) (count : ℕ) → is_above q p ≡ true → length q + count ≡ length p → q ≡ ancestor p count
unfolding ancestor
above_same p q count e l =
    let t = above_take q p e in
    let n : length q ≡ length p - count = omega arith in
    t.0 ∙ ap (λ n. take n p) n

take_above : (p : Path) (n : ℕ) → is_above (take n p) p ≡ true
unfolding is_above
take_above p zero = refl
take_above [] (suc n) = refl
take_above (m ∷ p) (suc n) = ap (λ b. b && is_above (take n p) p) ((bytes_eq-Decides m m).1 refl) ∙ take_above p n

pub ancestor_above : (p : Path) (count : ℕ) → is_above (ancestor p count) p ≡ true
unfolding ancestor
ancestor_above p count = take_above p (length p - count)

pub test_cases : (a b : ℕ) → ((a < b) × (nat_lt a b ≡ true)) ⊎ ((b ≤ a) × (nat_lt a b ≡ false))
test_cases a b = grind (arith, nat_tests)

pub above_append : (p r : Path) → is_above p (p ++ r) ≡ true
unfolding is_above
above_append [] r = refl
above_append (n ∷ p) r = ap (λ b. b && is_above p (p ++ r)) ((bytes_eq-Decides n n).1 refl) ∙ above_append p r

pub above_self : (p : Path) → is_above p p ≡ true
above_self p = ap (is_above p) (sym (append-nil p)) ∙ above_append p []

above_rest : (p q : Path) → is_above p q ≡ true → (r : Path) × (q ≡ p ++ r)
unfolding is_above
above_rest [] q e = (q, refl)
above_rest (n ∷ p) [] e = let x : false ≡ true = e in cc
above_rest (n ∷ p) (m ∷ q) e = by (text_cases n m) e (above_rest p q)
  where
    by : ((n ≡ m) × (bytes_eq n m ≡ true)) ⊎ ((n ≢ m) × (bytes_eq n m ≡ false)) → (bytes_eq n m && is_above p q) ≡ true → (is_above p q ≡ true → (r : Path) × (q ≡ p ++ r)) → (r : Path) × (m ∷ q ≡ n ∷ p ++ r)
    by (inl w) f ih = let h = ih (sym (ap (λ b. b && is_above p q) w.1) ∙ f) in (h.0, λ i. sym w.0 i ∷ h.1 i)
    by (inr w) f ih = let x : false ≡ true = sym (ap (λ b. b && is_above p q) w.1) ∙ f in cc

pub above_cases : (p q : Path) → ((r : Path) × (q ≡ p ++ r) × (is_above p q ≡ true)) ⊎ (is_above p q ≡ false)
above_cases p q = by (is_above p q) refl
  where
    by : (b : Bool) → is_above p q ≡ b → ((r : Path) × (q ≡ p ++ r) × (is_above p q ≡ true)) ⊎ (is_above p q ≡ false)
    by true e = let h = above_rest p q e in inl (h.0, h.1, e)
    by false e = inr e

pub not_above_front : (p : Path) (n : Text) → is_above (p ++ n ∷ []) p ≡ false
not_above_front p n = elim (above_cases (p ++ n ∷ []) p) [
  | inl h ↦
      let l = ap length h.1 in
      let a = length-append (p ++ n ∷ []) h.0 in
      let b = length-append p (n ∷ []) in
      absurd (omega arith)
  | inr e ↦ e
]

-- ## In the words of the core

pub same_is : (x y : Text) → same x y ≡ bytes_eq x y
same_is x y = elim (text_cases x y) [
  | inl w ↦ ap (same x) (sym w.0) ∙ same-refl x ∙ sym w.1
  | inr w ↦ by (same x y) (same-sound x y) w.0 ∙ sym w.1
]
  where
    by : (b : Bool) → (b ≡ true → x ≡ y) → x ≢ y → b ≡ false
    by true h n = absurd (n (h refl))
    by false h n = refl

pub rise_is : (n : ℕ) (p : Path) → n ≤ length p → rise n p ≡ Some (ancestor p n)
unfolding ancestor
rise_is zero [] h = refl
rise_is (suc n) [] h = absurd (omega arith)
rise_is n (x ∷ xs) h = by (rise_is n xs) (cases n (length xs))
  where
    cases : (a b : ℕ) → (a ≤ b) ⊎ (b < a)
    cases a b = grind arith

    by : (n ≤ length xs → rise n xs ≡ Some (take (length xs - n) xs)) → (n ≤ length xs) ⊎ (length xs < n) → rejoined x (rise n xs) (nat_eq n (suc (length xs))) ≡ Some (take (suc (length xs) - n) (x ∷ xs))
    by ih (inl le) =
        let e : suc (length xs) - n ≡ suc (length xs - n) = omega arith in
        ap (λ o. rejoined x o (nat_eq n (suc (length xs)))) (ih le) ∙ ap (λ k. Some (take k (x ∷ xs))) (sym e)
    by ih (inr lt) =
        let z : n ≡ suc (length xs) = omega arith in
        let e : suc (length xs) - n ≡ 0 = omega arith in
        let t : nat_eq n (suc (length xs)) ≡ true = grind (arith, nat_tests) in
        (λ i. rejoined x (rise_past n xs lt i) (t i)) ∙ ap (λ k. Some (take k (x ∷ xs))) (sym e)
