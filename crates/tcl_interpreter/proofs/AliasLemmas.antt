-- The way of an alias: how many leading names two paths have in common.
use Rattle.std.proofs.Common.{◌≡◌, ℕ, suc, ◌+◌, ◌-◌, ◌<◌, ◌≤◌, Bool, true, false, [], ◌∷◌, ◌++◌, length, take, drop, get_or, refl, sym, ◌∙◌, ap, inl, inr, arith, length-append, append_assoc, Some}
use Rattle.std.proofs.lemmas.List.{drop_more, drop_all}
use Rattle.std.proofs.lemmas.Grind.{common_steps}
use Rattle.std.specs.Prelude.{◌≢◌, ◌⊎◌, not}
use Rattle.std.specs.Str.{bytes_eq}
use Rattle.tcl_core.specs.Paths.{same, unless, together, rise}
use Rattle.tcl_interpreter.specs.Paths.{Text, Path, ancestor}
use Rattle.tcl_interpreter.proofs.PathLemmas.{text_cases, same_is, rise_is}

-- one more is the same
pub together_more : (p q : Path) (i : ℕ) (x y : Text) → i < length p → i < length q → x ≡ get_or p i x → y ≡ get_or q i y → bytes_eq x y ≡ true
    → together (drop i p) (drop i q) ≡ suc (together (drop (i + 1) p) (drop (i + 1) q))
together_more p q i x y lp lq ix iy e =
    (λ k. together (drop_more p i x lp k) (drop_more q i y lq k))
    ∙ (λ k. together (sym ix k ∷ drop (i + 1) p) (sym iy k ∷ drop (i + 1) q))
    ∙ ap (λ b. unless b (suc (together (drop (i + 1) p) (drop (i + 1) q)))) (same_is x y ∙ e)

-- none is the same any more
pub together_none : (p q : Path) (i : ℕ) (x y : Text) → i < length p → i < length q → x ≡ get_or p i x → y ≡ get_or q i y → bytes_eq x y ≡ false
    → together (drop i p) (drop i q) ≡ 0
together_none p q i x y lp lq ix iy e =
    (λ k. together (drop_more p i x lp k) (drop_more q i y lq k))
    ∙ (λ k. together (sym ix k ∷ drop (i + 1) p) (sym iy k ∷ drop (i + 1) q))
    ∙ ap (λ b. unless b (suc (together (drop (i + 1) p) (drop (i + 1) q)))) (same_is x y ∙ e)

together_nil : (p : Path) → together p [] ≡ 0
together_nil [] = refl
together_nil (x ∷ p) = refl

pub together_first : (p q : Path) (i : ℕ) → length p ≤ i → together (drop i p) (drop i q) ≡ 0
together_first p q i l = ap (λ r. together r (drop i q)) (drop_all i p l)

pub together_second : (p q : Path) (i : ℕ) → length q ≤ i → together (drop i p) (drop i q) ≡ 0
together_second p q i l = ap (together (drop i p)) (drop_all i q l) ∙ together_nil (drop i p)

-- what the two have in common is the front of each
pub fronts : (p q : Path) → take (together p q) p ≡ take (together p q) q
fronts [] q = refl
fronts (x ∷ p) [] = refl
fronts (x ∷ p) (y ∷ q) = by (text_cases x y) (fronts p q)
  where
    by : ((x ≡ y) × (bytes_eq x y ≡ true)) ⊎ ((x ≢ y) × (bytes_eq x y ≡ false)) → take (together p q) p ≡ take (together p q) q
        → take (unless (same x y) (suc (together p q))) (x ∷ p) ≡ take (unless (same x y) (suc (together p q))) (y ∷ q)
    by (inl w) ih = ap (λ b. take (unless b (suc (together p q))) (x ∷ p)) (same_is x y ∙ w.1) ∙ (λ k. w.0 k ∷ ih k) ∙ sym (ap (λ b. take (unless b (suc (together p q))) (y ∷ q)) (same_is x y ∙ w.1))
    by (inr w) ih = ap (λ b. take (unless b (suc (together p q))) (x ∷ p)) (same_is x y ∙ w.1) ∙ sym (ap (λ b. take (unless b (suc (together p q))) (y ∷ q)) (same_is x y ∙ w.1))

take_past : (a p : Path) (n : ℕ) → take (length a + n) (a ++ p) ≡ a ++ take n p
take_past [] p n = let e : 0 + n ≡ n = omega arith in ap (λ m. take m p) e
take_past (x ∷ a) p n = let e : length (x ∷ a) + n ≡ suc (length a + n) = omega arith in ap (λ m. take m (x ∷ a ++ p)) e ∙ ap (λ r. x ∷ r) (take_past a p n)

take_drop : (p : Path) (n : ℕ) → take n p ++ drop n p ≡ p
take_drop p n = grind (arith, common_steps)

-- the way leads from where the first names lead to where the second do
pub way_leads : (from to a : Path) (t : ℕ) → t ≡ together from to → t ≤ length from → (b : Path) × (rise (length from - t) (a ++ from) ≡ Some b) × (b ++ drop t to ≡ a ++ to)
unfolding ancestor
way_leads from to a t is l =
    let size = length-append a from in
    let e : length (a ++ from) - (length from - t) ≡ length a + t = omega arith in
    let front : take t from ≡ take t to = ap (λ n. take n from) is ∙ fronts from to ∙ ap (λ n. take n to) (sym is) in (
      a ++ take t from,
      rise_is (length from - t) (a ++ from) (omega arith) ∙ ap (λ n. Some (take n (a ++ from))) e ∙ ap Some (take_past a from t),
      append_assoc a (take t from) (drop t to) ∙ ap (λ r. a ++ (r ++ drop t to)) front ∙ ap (λ r. a ++ r) (take_drop to t),
    )

pub differ : (r b : Bool) → r ≡ not b → r ≡ true → b ≡ false
differ r true e t = let x : false ≡ true = sym e ∙ t in cc
differ r false e t = refl

pub agree : (r b : Bool) → r ≡ not b → r ≡ false → b ≡ true
agree r true e t = refl
agree r false e t = let x : true ≡ false = sym e ∙ t in cc

pub whole_rest : (p : Path) (n : ℕ) → take (length p - n) (drop n p) ≡ drop n p
whole_rest p n = grind (arith, common_steps)
