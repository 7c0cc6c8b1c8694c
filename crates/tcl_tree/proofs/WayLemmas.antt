-- Lemmas on the way up from an interpreter that is gone to those that stand.
use Rattle.std.proofs.Common.{◌≡◌, ℕ, zero, suc, pred, ◌+◌, ◌<◌, ◌≤◌, Bool, true, false, ◌&&◌, [], ◌∷◌, ◌++◌, length, cond, refl, sym, ◌∙◌, ap, subst, inl, inr, arith, append-nil, append_assoc, length-append, Option, Some, None}
use Rattle.std.specs.Prelude.{◌⊎◌, is_some, nat_eq, nat_le, nat_lt}
use Rattle.std.specs.Option.{option_map}
use Rattle.std.specs.Str.{bytes_eq}
use Rattle.std.proofs.lemmas.Bool.Decides.{nat_tests}
use Rattle.std.proofs.lemmas.Option.{same_Some}
use Rattle.slab.specs.Slab.{get}
use Rattle.tcl_core.specs.Trees.{depth_of}
use Rattle.tcl_core.specs.Runs.{gone, gone_by, grown, idle_at, idle_up, levels, onward}
use Rattle.tcl_interpreter.specs.Paths.{Text, Path, is_above}
use Rattle.tcl_interpreter.specs.declared.node.Meter.TheVariants.{Back}
use Rattle.tcl_interpreter.proofs.PathLemmas.{text_cases, snoc_ind, above_append, above_fits, above_cases}
use Rattle.tcl_tree.specs.Nodes.{Heap, NodeView, charged, moved, child_in, follow, level_in, IsSound}
use Rattle.tcl_tree.specs.Held.{Held, Keys, held_in, above_at, depth_at, gone_at, Over, StoodAt, HighestGone, IsOrdered}
use Rattle.tcl_tree.specs.Held.Over.{here, up}
use Rattle.tcl_tree.specs.Held.StoodAt.{top, below}
use Rattle.tcl_tree.specs.Held.HighestGone.{itself, further}
use Rattle.tcl_tree.specs.Gone.{held_of, Holds}
use Rattle.tcl_tree.specs.TreeOf.{tree_of}
use Rattle.tcl_tree.specs.declared.tree.Tree.{Tree}
use Rattle.tcl_tree.specs.declared.tree.Place.{Place}
use Rattle.tcl_tree.proofs.HeapLemmas.{follow-nil, last_step, then_child}
use Rattle.tcl_tree.proofs.HeldLemmas.{link-above, root-above, above-root, gone-there, no_above, not_gone, same_above, follow_stands, follow_there, depth_tree}
use Rattle.tcl_tree.proofs.GoneLemmas.{highest_gone, highest_same}

-- ## Names on the way up

module _ (h : Heap) (root : ℕ) (s : IsSound h root) (o : IsOrdered h root) where
  -- one that stands stood where it stands
  pub follow_stood : (p : Path) (k : ℕ) → follow h root p ≡ Some k → StoodAt (held_in h) k p
  follow_stood = snoc_ind (λ p. (k : ℕ) → follow h root p ≡ Some k → StoodAt (held_in h) k p)
      (λ k e.
      let is = same_Some _ _ (sym e ∙ follow-nil h root) in
      subst (λ x. StoodAt (held_in h) x []) (sym is) (top (follow_there h root s o [] root (follow-nil h root)) (root-above h root s.top)))
      (λ p n ih k e.
      let l = last_step h root p n k e in
      below n (link-above h k l.parent n (s.down l.parent n k l.child)) (ih l.parent l.front))

  pub stood_follow : (p : Path) (k : ℕ) → StoodAt (held_in h) k p → gone_at (held_in h k) ≡ false → follow h root p ≡ Some k
  stood_follow p k (top there none) stands = follow-nil h root ∙ ap Some (sym (s.alone k (above-root h k there none)))
  stood_follow p k (below {j = j} {p = q} n e w) stands =
      let c = o.child k j n stands e in
      then_child h root q n j (stood_follow q j w (parent j n c)) ∙ c
    where
      parent : (j : ℕ) (n : Text) → child_in h j n ≡ Some k → gone_at (held_in h j) ≡ false
      parent j n c = cases (gone_at (held_in h j)) refl
        where
          cases : (b : Bool) → gone_at (held_in h j) ≡ b → b ≡ false
          cases false e = refl
          cases true e = let x : ◌≡◌ {A = Option ℕ} None (Some k) = sym (o.bare j n e) ∙ c in absurd (cc)

-- the last step of the names is that of the key
pub stood_last : (H : Keys) (k j : ℕ) (n : Text) (p : Path) → above_at (H k) ≡ Some (j, n) → StoodAt H k p → (q : Path) × (p ≡ q ++ n ∷ []) × StoodAt H j q
stood_last H k j n p e (top there none) = no_above (j, n) (above_at (H k)) e none
stood_last H k j n p e (below {j = i} {p = q} m f w) =
    let same = same_above i j m n (sym f ∙ e) in
    (q, ap (λ t. q ++ t ∷ []) same.1, subst (λ y. StoodAt H y q) same.0 w)

-- the same keys on the way up, the same names
pub stood_along : (H H₁ : Keys) (k : ℕ) (p : Path) → ((a : ℕ) → Over H a k → (above_at (H₁ a) ≡ above_at (H a)) × (is_some (H a) ≡ true → is_some (H₁ a) ≡ true)) → StoodAt H k p → StoodAt H₁ k p
stood_along H H₁ k p same (top there none) = top ((same k here).1 there) ((same k here).0 ∙ none)
stood_along H H₁ k p same (below {j = j} {p = q} n e w) = below n ((same k here).0 ∙ e) (stood_along H H₁ j q (λ a v. same a (up n e v)) w)

pub highest_along : (H H₁ : Keys) (k m : ℕ) → ((a : ℕ) → Over H a k → (above_at (H₁ a) ≡ above_at (H a)) × (gone_at (H₁ a) ≡ gone_at (H a))) → HighestGone H k m → HighestGone H₁ k m
highest_along H H₁ k m same (itself {j = j} n g e f) = itself n ((same k here).1 ∙ g) ((same k here).0 ∙ e) ((same j (up n e here)).1 ∙ f)
highest_along H H₁ k m same (further {j = j} {m = i} n g e w) = further n ((same k here).1 ∙ g) ((same k here).0 ∙ e) (highest_along H H₁ j i (λ a v. same a (up n e v)) w)

-- no more is gone than was on the way up
pub highest_bound : (H : Keys) (k n : ℕ) (p : Path) → HighestGone H k n → StoodAt H k p → n ≤ length p
highest_bound H k n p (itself y g e f) w = omega arith
highest_bound H k n p (further {j = j} {m = i} y g e r) w =
    let l = stood_last H k j y p e w in
    let b = highest_bound H j i l.0 r l.2 in
    let x = ap length l.1 ∙ length-append l.0 (y ∷ []) in
    omega arith

-- above one that stands is one that stands
pub above_stands : (h : Heap) (root : ℕ) → IsOrdered h root → (k j : ℕ) (n : Text) → gone_at (held_in h k) ≡ false → above_at (held_in h k) ≡ Some (j, n) → gone_at (held_in h j) ≡ false
above_stands h root o k j n stands e = by (gone_at (held_in h j)) refl
  where
    by : (b : Bool) → gone_at (held_in h j) ≡ b → gone_at (held_in h j) ≡ false
    by false f = f
    by true f = let x : ◌≡◌ {A = Option ℕ} None (Some k) = sym (o.bare j n f) ∙ o.child k j n stands e in absurd (cc)

-- of one that is gone there is a highest above it
highest_step : (h : Heap) (root : ℕ) → IsSound h root → IsOrdered h root → (k : ℕ) → gone_at (held_in h k) ≡ true → (a : Option (ℕ × Text)) → above_at (held_in h k) ≡ a
    → ((j : ℕ) (n : Text) → above_at (held_in h k) ≡ Some (j, n) → gone_at (held_in h j) ≡ true → (m : ℕ) × HighestGone (held_in h) j m) → (m : ℕ) × HighestGone (held_in h) k m
highest_step h root s o k g None e ih =
    not_gone (gone_at (held_in h k)) g (ap (λ i. gone_at (held_in h i)) (s.alone k (above-root h k (gone-there (held_in h k) g) e)) ∙ o.root_stands)
highest_step h root s o k g (Some a) e ih = by (gone_at (held_in h a.0)) refl
  where
    by : (b : Bool) → gone_at (held_in h a.0) ≡ b → (m : ℕ) × HighestGone (held_in h) k m
    by false f = (0, itself a.1 g e f)
    by true f = let r = ih a.0 a.1 e f in (suc r.0, further a.1 g e r.1)

highest_within : (h : Heap) (root : ℕ) → IsSound h root → IsOrdered h root → (l k : ℕ) → level_in h k ≡ l → gone_at (held_in h k) ≡ true → (m : ℕ) × HighestGone (held_in h) k m
highest_within h root s o zero k e g = highest_step h root s o k g (above_at (held_in h k)) refl (λ j n a f. let x = o.levels k j n a in absurd (omega arith))
highest_within h root s o (suc l) k e g = highest_step h root s o k g (above_at (held_in h k)) refl (λ j n a f. highest_within h root s o l j (let x = o.levels k j n a in omega arith) f)

pub some_highest : (h : Heap) (root : ℕ) → IsSound h root → IsOrdered h root → (k : ℕ) → gone_at (held_in h k) ≡ true → (m : ℕ) × HighestGone (held_in h) k m
some_highest h root s o k g = highest_within h root s o (level_in h k) k refl g

-- ## Where nothing is in progress

idle_bound : (T : Path → Option NodeView) (p : Path) (n : ℕ) → idle_up T p ≡ Some n → n ≤ length p
idle_bound T [] n e = by (nat_eq (depth_of (T [])) 0) e
  where
    by : (b : Bool) → idle_at b ≡ Some n → n ≤ 0
    by true e = let x = same_Some _ _ e in omega arith
    by false e = let x : ◌≡◌ {A = Option ℕ} None (Some n) = e in absurd (cc)
idle_bound T (x ∷ xs) n e = by (idle_up (λ p. T (x ∷ p)) xs) (nat_eq (depth_of (T [])) 0) (idle_bound (λ p. T (x ∷ p)) xs) e
  where
    by : (o : Option ℕ) (b : Bool) → ((m : ℕ) → o ≡ Some m → m ≤ length xs) → onward o (length xs) b ≡ Some n → n ≤ suc (length xs)
    by None b ih e = let x : ◌≡◌ {A = Option ℕ} None (Some n) = e in absurd (cc)
    by (Some m) false ih e = let x = same_Some _ _ e in let y = ih m refl in omega arith
    by (Some m) true ih e = let y = ih m refl in cases (nat_le (length xs) m) (same_Some _ _ e) y
      where
        cases : (t : Bool) → grown t m ≡ n → m ≤ length xs → n ≤ suc (length xs)
        cases true e y = omega arith
        cases false e y = omega arith

-- so far up nothing is in progress
pub idle_low : (T : Path → Option NodeView) (p : Path) (n : ℕ) → idle_up T p ≡ Some n → (q : Path) → is_above q p ≡ true → length p ≤ length q + n → depth_of (T q) ≡ 0
unfolding is_above
idle_low T [] n e [] above low = by (nat_eq (depth_of (T [])) 0) refl e
  where
    by : (b : Bool) → nat_eq (depth_of (T [])) 0 ≡ b → idle_at b ≡ Some n → depth_of (T []) ≡ 0
    by true f e = grind (arith, nat_tests)
    by false f e = let x : ◌≡◌ {A = Option ℕ} None (Some n) = e in absurd (cc)
idle_low T [] n e (y ∷ q) above low = let x : false ≡ true = above in cc
idle_low T (x ∷ xs) n e [] above low = by (idle_up (λ p. T (x ∷ p)) xs) (nat_eq (depth_of (T [])) 0) refl (idle_bound (λ p. T (x ∷ p)) xs) e
  where
    by : (o : Option ℕ) (b : Bool) → nat_eq (depth_of (T [])) 0 ≡ b → ((m : ℕ) → o ≡ Some m → m ≤ length xs) → onward o (length xs) b ≡ Some n → depth_of (T []) ≡ 0
    by None b f bound e = let x : ◌≡◌ {A = Option ℕ} None (Some n) = e in absurd (cc)
    by (Some m) true f bound e = grind (arith, nat_tests)
    by (Some m) false f bound e = let y = same_Some _ _ e in let z = bound m refl in absurd (omega arith)
idle_low T (x ∷ xs) n e (y ∷ q) above low = elim (text_cases y x) [
  | inl w ↦
      let rest : is_above q xs ≡ true = sym (ap (λ b. b && is_above q xs) w.1) ∙ above in
      ap (λ z. depth_of (T (z ∷ q))) w.0 ∙ by (idle_up (λ p. T (x ∷ p)) xs) (nat_eq (depth_of (T [])) 0) e (λ m f l. idle_low (λ p. T (x ∷ p)) xs m f q rest l)
  | inr w ↦ let z : false ≡ true = sym (ap (λ b. b && is_above q xs) w.1) ∙ above in absurd (cc)
]
  where
    by : (o : Option ℕ) (b : Bool) → onward o (length xs) b ≡ Some n → ((m : ℕ) → o ≡ Some m → length xs ≤ length q + m → depth_of (T (x ∷ q)) ≡ 0) → depth_of (T (x ∷ q)) ≡ 0
    by None b e ih = let z : ◌≡◌ {A = Option ℕ} None (Some n) = e in absurd (cc)
    by (Some m) false e ih = let z = same_Some _ _ e in ih m refl (omega arith)
    by (Some m) true e ih = cases (nat_le (length xs) m) refl (same_Some _ _ e)
      where
        cases : (t : Bool) → nat_le (length xs) m ≡ t → grown t m ≡ n → depth_of (T (x ∷ q)) ≡ 0
        cases true g e = let l : length xs ≤ m = grind (arith, nat_tests) in ih m refl (omega arith)
        cases false g e = ih m refl (omega arith)

-- ## From the one whose evaluation ends to one that stands

-- The way up from p has come to the key, whose names are a. What it came by is in use no more in
-- the tree, and so is what is still gone.
pub record Climbed (H : Keys) (T : Path → Option NodeView) (p : Path) (key : ℕ) : Type 0 where
  pub front : Path
  pub rest : Path
  pub is : p ≡ front ++ rest
  pub stood : StoodAt H key front
  pub left : ((gone_at (H key) ≡ false) × ((q : Path) → is_above q p ≡ true → length front < length q → depth_of (T q) ≡ 0))
      ⊎ ((m : ℕ) × HighestGone H key m × ((q : Path) → is_above q p ≡ true → length front ≤ length q + m → depth_of (T q) ≡ 0))

pub deep_there : (x : Option Held) (d : ℕ) → 1 ≤ d → d ≤ depth_at x → is_some x ≡ true
deep_there None d l m = absurd (omega arith)
deep_there (Some x) d l m = refl

pub holds_there : (t : Tree) (place : Place) (p : Path) (d : ℕ) → Holds t place p d → is_some (held_of t place.key) ≡ true
holds_there t place p d w = deep_there (held_of t place.key) d w.least w.most

pub holds_climbed : (t : Tree) (place : Place) (p : Path) (d : ℕ) → Holds t place p d → Climbed (held_of t) (tree_of t) p place.key
holds_climbed t place p d w = elim w.somewhere [
  | inl names ↦ record {
    front = p;
    rest = [];
    is = sym (append-nil p);
    stood = follow_stood (get t.nodes) t.root t.sound t.ordered p place.key names;
    left = inl (follow_stands (get t.nodes) t.root t.sound t.ordered p place.key names, λ q above longer. let f = above_fits q p above in absurd (omega arith));
  }
  | inr g ↦ record {
    front = p;
    rest = [];
    is = sym (append-nil p);
    stood = g.1.stood;
    left = inr (g.0, g.1.highest, λ q above low. idle_low (tree_of t) p g.0 g.1.idle q above low);
  }
]

-- one level up, in a table where the way is the same
pub climbed_more : (H H₁ : Keys) (T : Path → Option NodeView) (p : Path) (key j : ℕ) (n : Text) → gone_at (H key) ≡ true → above_at (H key) ≡ Some (j, n)
    → ((a : ℕ) → Over H a j → H₁ a ≡ H a) → Climbed H T p key → Climbed H₁ T p j
climbed_more H H₁ T p key j n g e same c =
    let l = stood_last H key j n c.front e c.stood in
    let longer : length c.front ≡ length l.0 + 1 = ap length l.1 ∙ length-append l.0 (n ∷ []) in
    record {
      front = l.0;
      rest = n ∷ c.rest;
      is = c.is ∙ ap (λ x. x ++ c.rest) l.1 ∙ append_assoc l.0 (n ∷ []) c.rest;
      stood = stood_along H H₁ j l.0 (λ a w. (ap above_at (same a w), λ there. ap (λ x. is_some x) (same a w) ∙ there)) l.2;
      left = elim c.left [
        | inl stands ↦ not_gone (gone_at (H key)) g stands.0
        | inr w ↦ by w.0 w.1 l.0 longer w.2
      ];
    }
  where
    by : (m : ℕ) → HighestGone H key m → (front : Path) → length c.front ≡ length front + 1 → ((q : Path) → is_above q p ≡ true → length c.front ≤ length q + m → depth_of (T q) ≡ 0)
        → ((gone_at (H₁ j) ≡ false) × ((q : Path) → is_above q p ≡ true → length front < length q → depth_of (T q) ≡ 0))
        ⊎ ((m : ℕ) × HighestGone H₁ j m × ((q : Path) → is_above q p ≡ true → length front ≤ length q + m → depth_of (T q) ≡ 0))
    by m (itself {j = i} y a b f) front longer low =
        let is = same_above i j y n (sym b ∙ e) in
        inl (ap gone_at (same j here) ∙ ap (λ z. gone_at (H z)) (sym is.0) ∙ f, λ q above l. low q above (omega arith))
    by m (further {j = i} {m = k} y a b f) front longer low =
        let is = same_above i j y n (sym b ∙ e) in
        inr (k, highest_along H H₁ j k (λ a w. (ap above_at (same a w), ap gone_at (same a w))) (subst (λ z. HighestGone H z k) is.0 f), λ q above l. low q above (omega arith))

-- ## The tree of those that stand

above_or_longer : (q a r : Path) → is_above q (a ++ r) ≡ true → (is_above q a ≡ true) ⊎ (length a < length q)
unfolding is_above
above_or_longer [] a r e = inl refl
above_or_longer (x ∷ q) [] r e = inr (omega arith)
above_or_longer (x ∷ q) (y ∷ a) r e = by (bytes_eq x y) e (above_or_longer q a r)
  where
    by : (b : Bool) → (b && is_above q (a ++ r)) ≡ true → (is_above q (a ++ r) ≡ true → (is_above q a ≡ true) ⊎ (length a < length q)) → ((b && is_above q a) ≡ true) ⊎ (suc (length a) < suc (length q))
    by true e ih = elim (ih e) [
      | inl w ↦ inl w
      | inr w ↦ inr (omega arith)
    ]
    by false e ih = let z : false ≡ true = e in absurd (cc)

above_all : (q a r : Path) → is_above q a ≡ true → is_above q (a ++ r) ≡ true
above_all q a r e = elim (above_cases q a) [
  | inl w ↦ ap (λ x. is_above q (x ++ r)) w.1 ∙ ap (is_above q) (append_assoc q w.0 r) ∙ above_append q (w.0 ++ r)
  | inr f ↦ not_gone (is_above q a) e f
]

none_lower : (o : Option NodeView) → depth_of o ≡ 0 → o ≡ option_map (moved Back) o
none_lower None e = refl
none_lower (Some v) e = λ i. Some (record v { depth = (e ∙ sym (ap (λ n. pred n) e)) i })

-- to lower the depths from a, or from p on, is the same where in between nothing is in progress
pub lowered_between : (T : Path → Option NodeView) (p a r : Path) → p ≡ a ++ r → ((q : Path) → is_above q p ≡ true → length a < length q → depth_of (T q) ≡ 0)
    → (q : Path) → charged (moved Back) T a q ≡ charged (moved Back) T p q
unfolding charged
lowered_between T p a r is low q = by (is_above q a) refl (is_above q p) refl
  where
    by : (b : Bool) → is_above q a ≡ b → (c : Bool) → is_above q p ≡ c → cond b (option_map (moved Back) (T q)) (T q) ≡ cond c (option_map (moved Back) (T q)) (T q)
    by true e true f = refl
    by false e false f = refl
    by true e false f = not_gone (is_above q p) (ap (is_above q) is ∙ above_all q a r e) f
    by false e true f = elim (above_or_longer q a r (sym (ap (is_above q) is) ∙ f)) [
      | inl w ↦ not_gone (is_above q a) w e
      | inr l ↦ none_lower (T q) (low q f l)
    ]

-- ## Who is gone

pub gone_none : (t : Tree) (place : Place) (p : Path) (d : ℕ) → gone_at (held_of t place.key) ≡ false → Holds t place p d → None ≡ gone d (tree_of t) p
gone_none t place p d stands w = elim w.somewhere [
  | inl names ↦
      let deep : d ≤ depth_of (tree_of t p) = let x = depth_tree (get t.nodes) t.root t.sound t.ordered p place.key names in let y = w.most in omega arith in
      let e : nat_lt (depth_of (tree_of t p)) d ≡ false = grind (arith, nat_tests) in
      ap (λ b. gone_by b (levels (idle_up (tree_of t) p))) (sym e)
  | inr g ↦ not_gone (gone_at (held_of t place.key)) (highest_gone (held_of t) place.key g.0 g.1.highest) stands
]

pub gone_some : (t : Tree) (place : Place) (p : Path) (d n : ℕ) → HighestGone (held_of t) place.key n → Holds t place p d → Some n ≡ gone d (tree_of t) p
gone_some t place p d n highest w = elim w.somewhere [
  | inl names ↦ not_gone (gone_at (held_of t place.key)) (highest_gone (held_of t) place.key n highest) (follow_stands (get t.nodes) t.root t.sound t.ordered p place.key names)
  | inr g ↦
      let idle = idle_low (tree_of t) p g.0 g.1.idle p above_it (omega arith) in
      let l = w.least in
      let e : nat_lt (depth_of (tree_of t p)) d ≡ true = grind (arith, nat_tests) in
      sym (ap (λ b. gone_by b (levels (idle_up (tree_of t) p))) e ∙ ap (λ o. Some (levels o)) g.1.idle ∙ ap Some (highest_same (held_of t) place.key g.0 n g.1.highest highest))
]
  where
    above_it : is_above p p ≡ true
    above_it = ap (is_above p) (sym (append-nil p)) ∙ above_append p []
