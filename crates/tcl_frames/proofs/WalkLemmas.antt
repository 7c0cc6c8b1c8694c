-- Walks of at most so many steps.
use Rattle.std.proofs.Common.{◌≡◌, ℕ, zero, suc, ◌+◌, ◌-◌, ◌<◌, ◌≤◌, ◌⊎◌, inl, inr, Bool, true, false, Option, Some, None, refl, sym, ◌∙◌, ap, subst, arith}
use Rattle.tcl_frames.specs.Places.{onward, walk}
use Rattle.tcl_frames.specs.Sound.{Ends}

pub test_of : (b : Bool) → (b ≡ true) ⊎ (b ≡ false)
test_of true = inl refl
test_of false = inr refl

module _ {A : Type 0} where
  onward_some : (o : Option A) (p : A) (w : A → A) (q : A) → o ≡ Some q → onward o p w ≡ w q
  onward_some o p w q e = ap (λ r. onward r p w) e

  onward_none : (o : Option A) (p : A) (w : A → A) → o ≡ None → onward o p w ≡ p
  onward_none o p w e = ap (λ r. onward r p w) e

  pub walk_zero : (f : A → Option A) (p : A) → walk 0 f p ≡ p
  unfolding walk
  walk_zero f p = refl

  pub walk_some : (n : ℕ) (f : A → Option A) (p q : A) → f p ≡ Some q → walk (suc n) f p ≡ walk n f q
  unfolding walk
  walk_some n f p q e = onward_some (f p) p (walk n f) q e

  pub walk_none : (n : ℕ) (f : A → Option A) (p : A) → f p ≡ None → walk n f p ≡ p
  unfolding walk
  walk_none zero f p e = refl
  walk_none (suc n) f p e = onward_none (f p) p (walk n f) e

  some_none : (q : A) → Some q ≡ None → ⊥
  some_none q e = cc

  -- where there is nothing more, a walk has ended
  pub ends_at : (n : ℕ) (f : A → Option A) (p : A) → f p ≡ None → Ends n f p
  ends_at n f p e = ap f (walk_none n f p e) ∙ e

  pub ends_step : (n : ℕ) (f : A → Option A) (p q : A) → f p ≡ Some q → Ends n f q → Ends (suc n) f p
  ends_step n f p q e h = ap f (walk_some n f p q e) ∙ h

  pub ends_back : (n : ℕ) (f : A → Option A) (p q : A) → f p ≡ Some q → Ends (suc n) f p → Ends n f q
  ends_back n f p q e h = ap f (sym (walk_some n f p q e)) ∙ h

  pub ends_not_zero : (f : A → Option A) (p q : A) → f p ≡ Some q → Ends 0 f p → ⊥
  ends_not_zero f p q e h = some_none q (sym e ∙ ap f (sym (walk_zero f p)) ∙ h)

  -- cases of a step
  pub step_of : (f : A → Option A) (p : A) → (f p ≡ None) ⊎ ((q : A) × (f p ≡ Some q))
  step_of f p = by (f p) refl
    where
      by : (o : Option A) → f p ≡ o → (f p ≡ None) ⊎ ((q : A) × (f p ≡ Some q))
      by None e = inl e
      by (Some q) e = inr (q, e)

  pub ends_suc : (n : ℕ) (f : A → Option A) (p : A) → Ends n f p → Ends (suc n) f p
  ends_suc zero f p h = by (step_of f p)
    where
      by : (f p ≡ None) ⊎ ((q : A) × (f p ≡ Some q)) → Ends 1 f p
      by (inl e) = ends_at 1 f p e
      by (inr s) = absurd (ends_not_zero f p s.0 s.1 h)
  ends_suc (suc n) f p h =
      elim (step_of f p) [
        | inl e ↦ ends_at (suc (suc n)) f p e
        | inr s ↦ ends_step (suc n) f p s.0 s.1 (ends_suc n f s.0 (ends_back n f p s.0 s.1 h))
      ]

  pub ends_add : (k n : ℕ) (f : A → Option A) (p : A) → Ends n f p → Ends (k + n) f p
  ends_add zero n f p h = subst (λ m. Ends m f p) (sym (zero_plus n)) h
    where
      zero_plus : (n : ℕ) → 0 + n ≡ n
      zero_plus n = omega arith
  ends_add (suc k) n f p h = subst (λ m. Ends m f p) (suc_plus k n) (ends_suc (k + n) f p (ends_add k n f p h))
    where
      suc_plus : (k n : ℕ) → suc (k + n) ≡ suc k + n
      suc_plus k n = omega arith

  pub ends_more : (n m : ℕ) (f : A → Option A) (p : A) → n ≤ m → Ends n f p → Ends m f p
  ends_more n m f p l h = subst (λ k. Ends k f p) (back n m l) (ends_add (m - n) n f p h)
    where
      back : (n m : ℕ) → n ≤ m → (m - n) + n ≡ m
      back n m l = omega arith

  -- one more step makes no difference at the end
  pub walk_more : (n : ℕ) (f : A → Option A) (p : A) → Ends n f p → walk (suc n) f p ≡ walk n f p
  walk_more zero f p h = walk_none 1 f p (ap f (sym (walk_zero f p)) ∙ h) ∙ sym (walk_zero f p)
  walk_more (suc n) f p h =
      elim (step_of f p) [
        | inl e ↦ walk_none (suc (suc n)) f p e ∙ sym (walk_none (suc n) f p e)
        | inr s ↦ walk_some (suc n) f p s.0 s.1 ∙ walk_more n f s.0 (ends_back n f p s.0 s.1 h) ∙ sym (walk_some n f p s.0 s.1)
      ]

  -- a step onward leads to the same end
  pub walk_on : (n : ℕ) (f : A → Option A) (p q : A) → f p ≡ Some q → Ends n f p → walk n f p ≡ walk n f q
  walk_on zero f p q e h = absurd (ends_not_zero f p q e h)
  walk_on (suc n) f p q e h = walk_some n f p q e ∙ sym (walk_more n f q (ends_back n f p q e h))

  -- how many steps a walk takes
  abbrev pub one_more : Option A → (A → ℕ) → ℕ
  one_more None g = 0
  one_more (Some q) g = suc (g q)

  unfoldable pub hops : ℕ → (A → Option A) → A → ℕ
  hops zero f p = 0
  hops (suc n) f p = one_more (f p) (hops n f)

  hops_some : (n : ℕ) (f : A → Option A) (p q : A) → f p ≡ Some q → hops (suc n) f p ≡ suc (hops n f q)
  unfolding hops
  hops_some n f p q e = ap (λ o. one_more o (hops n f)) e

  hops_none : (n : ℕ) (f : A → Option A) (p : A) → f p ≡ None → hops n f p ≡ 0
  unfolding hops
  hops_none zero f p e = refl
  hops_none (suc n) f p e = ap (λ o. one_more o (hops n f)) e

  hops_more : (n : ℕ) (f : A → Option A) (p : A) → Ends n f p → hops (suc n) f p ≡ hops n f p
  hops_more zero f p h = let e : f p ≡ None = ap f (sym (walk_zero f p)) ∙ h in hops_none 1 f p e ∙ sym (hops_none 0 f p e)
  hops_more (suc n) f p h =
      elim (step_of f p) [
        | inl e ↦ hops_none (suc (suc n)) f p e ∙ sym (hops_none (suc n) f p e)
        | inr s ↦ hops_some (suc n) f p s.0 s.1 ∙ ap suc (hops_more n f s.0 (ends_back n f p s.0 s.1 h)) ∙ sym (hops_some n f p s.0 s.1)
      ]

  pub hops_fall : (n : ℕ) (f : A → Option A) (p q : A) → f p ≡ Some q → Ends n f p → hops n f q < hops n f p
  hops_fall zero f p q e h = absurd (ends_not_zero f p q e h)
  hops_fall (suc n) f p q e h =
      let a = hops_some n f p q e in
      let b = hops_more n f q (ends_back n f p q e h) in
      omega (arith, a, b)

  -- the same steps, the same end
  pub ends_same : (n : ℕ) (f g : A → Option A) → ((a : A) → g a ≡ f a) → (p : A) → Ends n f p → Ends n g p
  ends_same zero f g same p h = ap g (walk_zero g p) ∙ same p ∙ ap f (sym (walk_zero f p)) ∙ h
  ends_same (suc n) f g same p h =
      elim (step_of f p) [
        | inl e ↦ ends_at (suc n) g p (same p ∙ e)
        | inr s ↦ ends_step n g p s.0 (same p ∙ s.1) (ends_same n f g same s.0 (ends_back n f p s.0 s.1 h))
      ]

  -- where one step is made anew, to where there is none
  module _ (f g : A → Option A) (t : A → Bool) (e : A) (same : (a : A) → t a ≡ false → g a ≡ f a) (anew : (a : A) → t a ≡ true → g a ≡ Some e) (stop : g e ≡ None) where
    pub ends_fresh : (n : ℕ) (p : A) → Ends n f p → Ends (suc n) g p
    ends_fresh zero p h =
        elim (test_of (t p)) [
          | inl is ↦ ends_step 0 g p e (anew p is) (ends_at 0 g e stop)
          | inr is ↦ ends_at 1 g p (same p is ∙ ap f (sym (walk_zero f p)) ∙ h)
        ]
    ends_fresh (suc n) p h =
        elim (test_of (t p)) [
          | inl is ↦ ends_step (suc n) g p e (anew p is) (ends_at (suc n) g e stop)
          | inr is ↦ elim (step_of f p) [
            | inl none ↦ ends_at (suc (suc n)) g p (same p is ∙ none)
            | inr s ↦ ends_step (suc n) g p s.0 (same p is ∙ s.1) (ends_fresh n s.0 (ends_back n f p s.0 s.1 h))
          ]
        ]

    pub ends_again : ((a : A) → t a ≡ true → (b : A) × (f a ≡ Some b)) → (n : ℕ) (p : A) → Ends n f p → Ends n g p
    ends_again was zero p h =
        elim (test_of (t p)) [
          | inl is ↦ absurd (ends_not_zero f p (was p is).0 (was p is).1 h)
          | inr is ↦ ap g (walk_zero g p) ∙ same p is ∙ ap f (sym (walk_zero f p)) ∙ h
        ]
    ends_again was (suc n) p h =
        elim (test_of (t p)) [
          | inl is ↦ ends_step n g p e (anew p is) (ends_at n g e stop)
          | inr is ↦ elim (step_of f p) [
            | inl none ↦ ends_at (suc n) g p (same p is ∙ none)
            | inr s ↦ ends_step n g p s.0 (same p is ∙ s.1) (ends_again was n s.0 (ends_back n f p s.0 s.1 h))
          ]
        ]
