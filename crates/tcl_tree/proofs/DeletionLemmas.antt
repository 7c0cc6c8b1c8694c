-- What is gone after a deletion, and that nothing of it is left in a tree where nothing is in progress.
use Rattle.std.proofs.Common.{◌≡◌, ℕ, zero, suc, ◌+◌, ◌<◌, ◌≤◌, Bool, true, false, ◌&&◌, [], ◌∷◌, ◌++◌, length, refl, sym, ◌∙◌, ap, subst, inl, inr, arith, append-nil, append_assoc, length-append, Option, Some, None}
use Rattle.std.specs.Prelude.{is_some, nat_eq, nat_le, ◌==◌}
use Rattle.std.proofs.lemmas.Bool.Decides.{nat_tests}
use Rattle.std.proofs.lemmas.Slice.Eq.{bytes_eq-Decides}
use Rattle.std.specs.Option.{option_and_then}
use Rattle.slab.specs.Slab.{get}
use Rattle.tcl_core.specs.Paths.{strip}
use Rattle.tcl_core.specs.Trees.{depth_of, at_end, where_some, with_own}
use Rattle.tcl_core.specs.Runs.{grown, idle_at, idle_up, onward}
use Rattle.tcl_interpreter.specs.Own.{Own}
use Rattle.tcl_interpreter.specs.Paths.{Text, Path, is_above}
use Rattle.tcl_interpreter.proofs.PathLemmas.{above_append, above_cases, above_self, not_above_front, snoc_ind}
use Rattle.tcl_tree.specs.Nodes.{Heap, NodeView, follow, level_in, IsSound}
use Rattle.tcl_tree.specs.Held.{Held, held_in, above_at, depth_at, gone_at, Over, HighestGone, Parts, parted, parted_by, IsOrdered}
use Rattle.tcl_tree.specs.Held.Over.{here, up}
use Rattle.tcl_tree.specs.Held.HighestGone.{itself, further}
use Rattle.tcl_tree.specs.Changes.{Drops}
use Rattle.tcl_tree.specs.Gone.{held_of, depth_in, IsGone}
use Rattle.tcl_tree.specs.TreeOf.{tree_of, key_of, Names}
use Rattle.tcl_tree.specs.declared.tree.Tree.{Tree}
use Rattle.tcl_tree.specs.declared.tree.Place.{Place}
use Rattle.tcl_tree.proofs.HeapLemmas.{follow-nil, last_step, one_path}
use Rattle.tcl_tree.proofs.StepLemmas.{follow_append}
use Rattle.tcl_tree.proofs.CoreLemmas.{above_is, tree_there}
use Rattle.tcl_tree.proofs.HeldLemmas.{above-root, depth_tree, follow_stands, link-above, not_gone, over_path, path_over}
use Rattle.tcl_tree.proofs.WayLemmas.{follow_stood, stood_along}

-- ## The root is in use as deeply as any

depth_step : (h : Heap) (root : ℕ) → IsSound h root → IsOrdered h root → (k : ℕ) (x : Option (ℕ × Text)) → above_at (held_in h k) ≡ x
    → ((j : ℕ) (n : Text) → above_at (held_in h k) ≡ Some (j, n) → depth_at (held_in h j) ≤ depth_at (held_in h root)) → depth_at (held_in h k) ≤ depth_at (held_in h root)
depth_step h root s o k (Some x) e ih = let a = o.depths k x.0 x.1 e in let b = ih x.0 x.1 e in omega arith
depth_step h root s o k None e ih = by (is_some (held_in h k)) refl
  where
    absent : (x : Option Held) → is_some x ≡ false → depth_at x ≡ 0
    absent None f = refl
    absent (Some x) f = let y : true ≡ false = f in cc

    by : (b : Bool) → is_some (held_in h k) ≡ b → depth_at (held_in h k) ≤ depth_at (held_in h root)
    by true f = let same = ap (λ i. depth_at (held_in h i)) (s.alone k (above-root h k f e)) in omega arith
    by false f = let none = absent (held_in h k) f in omega arith

depth_within : (h : Heap) (root : ℕ) → IsSound h root → IsOrdered h root → (m k : ℕ) → level_in h k ≡ m → depth_at (held_in h k) ≤ depth_at (held_in h root)
depth_within h root s o zero k l = depth_step h root s o k (above_at (held_in h k)) refl (λ j n e. let f = o.levels k j n e in absurd (omega arith))
depth_within h root s o (suc m) k l = depth_step h root s o k (above_at (held_in h k)) refl (λ j n e. depth_within h root s o m j (let f = o.levels k j n e in omega arith))

pub nothing_left : (t : Tree) → depth_of (tree_of t []) ≡ 0 → (k : ℕ) → gone_at (held_of t k) ≡ false
nothing_left t idle k = by (gone_at (held_of t k)) refl
  where
    by : (b : Bool) → gone_at (held_of t k) ≡ b → gone_at (held_of t k) ≡ false
    by false e = e
    by true e =
        let used = t.ordered.used k e in
        let root = depth_tree (get t.nodes) t.root t.sound t.ordered [] t.root (follow-nil (get t.nodes) t.root) in
        let most = depth_within (get t.nodes) t.root t.sound t.ordered (level_in (get t.nodes) k) k refl in
        absurd (omega arith)

-- ## Up to there nothing is in progress, and above it something

pub idle_there : (q : Path) (T : Path → Option NodeView) (n : ℕ) → n ≤ length q → ((p z : Path) → q ≡ p ++ z → length z ≤ n → depth_of (T p) ≡ 0) → ((p z : Path) → q ≡ p ++ z → n < length z → 1 ≤ depth_of (T p)) → idle_up T q ≡ Some n
idle_there [] T n le f g =
    let d : depth_of (T []) ≡ 0 = f [] [] refl (omega arith) in
    let e : nat_eq (depth_of (T [])) 0 ≡ true = grind (arith, nat_tests) in
    let m : n ≡ 0 = omega arith in
    ap idle_at e ∙ ap Some (sym m)
idle_there (x ∷ q) T n le f g = by (nat_le n (length q)) refl
    (λ l. idle_there q (λ p. T (x ∷ p)) n l (λ p z e h. f (x ∷ p) z (ap (λ r. x ∷ r) e) h) (λ p z e h. g (x ∷ p) z (ap (λ r. x ∷ r) e) h))
    (λ h. idle_there q (λ p. T (x ∷ p)) (length q) (omega arith) (λ p z e l. f (x ∷ p) z (ap (λ r. x ∷ r) e) (omega arith)) (λ p z e l. (let k : length q ≡ length p + length z = ap length e ∙ length-append p z in absurd (let y : Prim.⊥ = omega arith in y))))
  where
    by : (b : Bool) → nat_le n (length q) ≡ b → (n ≤ length q → idle_up (λ p. T (x ∷ p)) q ≡ Some n) → (n ≡ suc (length q) → idle_up (λ p. T (x ∷ p)) q ≡ Some (length q)) → onward (idle_up (λ p. T (x ∷ p)) q) (length q) (nat_eq (depth_of (T [])) 0) ≡ Some n
    by true e on past =
        let l : n ≤ length q = grind (arith, nat_tests) in
        let d : 1 ≤ depth_of (T []) = g [] (x ∷ q) refl (omega arith) in
        let k : nat_eq (depth_of (T [])) 0 ≡ false = grind (arith, nat_tests) in
        ap (λ o. onward o (length q) (nat_eq (depth_of (T [])) 0)) (on l) ∙ ap (onward (Some n) (length q)) k
    by false e on past =
        let m : n ≡ suc (length q) = grind (arith, nat_tests) in
        let d : depth_of (T []) ≡ 0 = f [] (x ∷ q) refl (omega arith) in
        let k : nat_eq (depth_of (T [])) 0 ≡ true = grind (arith, nat_tests) in
        let j : nat_le (length q) (length q) ≡ true = grind (arith, nat_tests) in
        ap (λ o. onward o (length q) (nat_eq (depth_of (T [])) 0)) (past m) ∙ ap (onward (Some (length q)) (length q)) k ∙ ap (λ b. Some (grown b (length q))) j ∙ ap Some (sym m)

-- ## After a deletion

-- the shorter one of two beginnings of a path is above the other
prefix_above : (c x r z : Path) → c ++ r ≡ x ++ z → length c ≤ length x → is_above c x ≡ true
unfolding is_above
prefix_above [] x r z e l = refl
prefix_above (a ∷ c) [] r z e l = absurd (omega arith)
prefix_above (a ∷ c) (b ∷ x) r z e l =
    let same : a ≡ b = cc in
    let tails : c ++ r ≡ x ++ z = cc in
    ap (λ t. t && is_above c x) ((bytes_eq-Decides a b).1 same) ∙ prefix_above c x r z tails (omega arith)

above_parted : (x : Option Held) → 1 ≤ depth_at x → (above_at (parted x) ≡ above_at x) × (is_some (parted x) ≡ true) × (gone_at (parted x) ≡ true)
above_parted None l = absurd (omega arith)
above_parted (Some x) l = by (x.depth == 0) refl
  where
    by : (b : Bool) → (x.depth == 0) ≡ b → (above_at (parted_by b x) ≡ x.above) × (is_some (parted_by b x) ≡ true) × (gone_at (parted_by b x) ≡ true)
    by true e = let z : x.depth ≡ 0 = grind (arith, nat_tests) in absurd (omega arith)
    by false e = (refl, refl, refl)

module _ (t u : Tree) (p : Path) (n : Text) (parts : Parts (held_of t) (key_of t) (p ++ n ∷ []) (held_of u)) where
  -- who is over one that is in use is in use
  over_deep : (a key : ℕ) → Over (held_of t) a key → depth_at (held_of t key) ≤ depth_at (held_of t a)
  over_deep a key here = omega arith
  over_deep a key (up {j = j} m e w) = let x = t.ordered.depths key j m e in let y = over_deep a j w in omega arith

  -- what stands beside the path is as it was
  beside_path : (q : Path) (k : ℕ) → key_of t q ≡ Some k → is_above (p ++ n ∷ []) q ≡ false → held_of u k ≡ held_of t k
  beside_path q k at away = parts.others k (λ x above e.
      not_gone (is_above (p ++ n ∷ []) x) above (ap (is_above (p ++ n ∷ [])) (one_path (get t.nodes) t.root t.sound x q k e at) ∙ away))

  kept : (key : ℕ) (q : Path) → key_of t q ≡ Some key → 1 ≤ depth_at (held_of t key) → (a : ℕ) → Over (held_of t) a key → (above_at (held_of u a) ≡ above_at (held_of t a)) × (is_some (held_of t a) ≡ true → is_some (held_of u a) ≡ true)
  kept key q at deep a w =
      let x = over_path (get t.nodes) t.root t.ordered t.sound a q key at w in
      let d = over_deep a key w in
      by x.0 x.2 (omega arith) (is_above (p ++ n ∷ []) x.0) refl
    where
      by : (y : Path) → key_of t y ≡ Some a → 1 ≤ depth_at (held_of t a) → (b : Bool) → is_above (p ++ n ∷ []) y ≡ b → (above_at (held_of u a) ≡ above_at (held_of t a)) × (is_some (held_of t a) ≡ true → is_some (held_of u a) ≡ true)
      by y e l true f =
          let is = parts.below y a f e in
          let z = above_parted (held_of t a) l in
          (ap above_at is ∙ z.0, λ there. ap (λ o. is_some o) is ∙ z.1)
      by y e l false f = let is = beside_path y a e f in (ap above_at is, λ there. ap (λ o. is_some o) is ∙ there)

  -- the highest that is gone is the one that was deleted
  highest : (r : Path) (k : ℕ) → key_of t ((p ++ n ∷ []) ++ r) ≡ Some k → 1 ≤ depth_at (held_of t k) → HighestGone (held_of u) k (length r)
  highest = snoc_ind (λ r. (k : ℕ) → key_of t ((p ++ n ∷ []) ++ r) ≡ Some k → 1 ≤ depth_at (held_of t k) → HighestGone (held_of u) k (length r))
      (λ k e l.
      let at : key_of t (p ++ n ∷ []) ≡ Some k = ap (key_of t) (sym (append-nil (p ++ n ∷ []))) ∙ e in
      let s = last_step (get t.nodes) t.root p n k at in
      let is = parts.below (p ++ n ∷ []) k (above_self (p ++ n ∷ [])) at in
      let z = above_parted (held_of t k) l in
      let above = link-above (get t.nodes) k s.parent n (t.sound.down s.parent n k s.child) in
      itself n (ap gone_at is ∙ z.2) (ap above_at is ∙ z.0 ∙ above) (ap gone_at (beside_path p s.parent s.front (not_above_front p n)) ∙ follow_stands (get t.nodes) t.root t.sound t.ordered p s.parent s.front))
      (λ r m ih k e l.
      let whole : (p ++ n ∷ []) ++ (r ++ m ∷ []) ≡ ((p ++ n ∷ []) ++ r) ++ m ∷ [] = sym (append_assoc (p ++ n ∷ []) r (m ∷ [])) in
      let at : key_of t (((p ++ n ∷ []) ++ r) ++ m ∷ []) ≡ Some k = ap (key_of t) (sym whole) ∙ e in
      let s = last_step (get t.nodes) t.root ((p ++ n ∷ []) ++ r) m k at in
      let is = parts.below ((p ++ n ∷ []) ++ (r ++ m ∷ [])) k (above_append (p ++ n ∷ []) (r ++ m ∷ [])) e in
      let z = above_parted (held_of t k) l in
      let above = link-above (get t.nodes) k s.parent m (t.sound.down s.parent m k s.child) in
      let d = t.ordered.depths k s.parent m above in
      let longer : suc (length r) ≡ length (r ++ m ∷ []) = let x = length-append r (m ∷ []) in omega (arith, x) in
      subst (λ i. HighestGone (held_of u) k i) longer (further m (ap gone_at is ∙ z.2) (ap above_at is ∙ z.0 ∙ above) (ih s.parent s.front (omega arith))))

  module _ (drops : Drops (tree_of t) (tree_of u) p n) (r : Path) (place : Place) (named : Names t place ((p ++ n ∷ []) ++ r)) (deep : 1 ≤ depth_in t place) where
    -- what is at a path above the one that is named
    front_there : (x z : Path) → (p ++ n ∷ []) ++ r ≡ x ++ z → (a : ℕ) × (key_of t x ≡ Some a)
    front_there x z e = by (follow (get t.nodes) t.root x) refl
      where
        by : (o : Option ℕ) → follow (get t.nodes) t.root x ≡ o → (a : ℕ) × (key_of t x ≡ Some a)
        by (Some a) f = (a, f)
        by None f =
            let y : ◌≡◌ {A = Option ℕ} None (Some place.key) = sym (follow_append (get t.nodes) x z t.root ∙ ap (option_and_then (λ c. follow (get t.nodes) c z)) f) ∙ ap (key_of t) (sym e) ∙ named in
            absurd (cc)

    parent_there : (v : NodeView) × (tree_of t p ≡ Some v)
    parent_there = by (tree_of t p) refl
      where
        front : (a : ℕ) × (key_of t p ≡ Some a)
        front = front_there p (n ∷ r) (append_assoc p (n ∷ []) r)

        by : (o : Option NodeView) → tree_of t p ≡ o → (v : NodeView) × (tree_of t p ≡ Some v)
        by (Some v) e = (v, e)
        by None e = not_gone (is_some (tree_of t p)) (tree_there t p front.0 front.1) (ap (λ o. is_some o) e)

    -- the tree that is left, at the path and below it, and elsewhere
    nobody : (x : Path) → is_above (p ++ n ∷ []) x ≡ true → depth_of (tree_of u x) ≡ 0
    nobody x above = ap (λ (f : Path → Option NodeView). depth_of (f x)) (drops parent_there.0 parent_there.1) ∙ by _ (strip (p ++ n ∷ []) x) (sym (above_is (p ++ n ∷ []) x) ∙ above)
      where
        by : (y : Option NodeView) (o : Option Path) → is_some o ≡ true → depth_of (where_some o (λ z. None) y) ≡ 0
        by y None e = let z : false ≡ true = e in cc
        by y (Some q) e = refl

    elsewhere : (x : Path) → is_above (p ++ n ∷ []) x ≡ false → depth_of (tree_of u x) ≡ depth_of (tree_of t x)
    elsewhere x away = ap (λ (f : Path → Option NodeView). depth_of (f x)) (drops parent_there.0 parent_there.1) ∙ by _ (strip (p ++ n ∷ []) x) (sym (above_is (p ++ n ∷ []) x) ∙ away) (strip p x)
      where
        same : (own : Own) (y : Option NodeView) → depth_of (with_own own y) ≡ depth_of y
        same own None = refl
        same own (Some v) = refl

        by : (own : Own) (o : Option Path) → is_some o ≡ false → (w : Option Path) → depth_of (where_some o (λ z. None) (at_end w (with_own own) (tree_of t x))) ≡ depth_of (tree_of t x)
        by own (Some q) e w = let z : true ≡ false = e in cc
        by own None e None = refl
        by own None e (Some []) = same own (tree_of t x)
        by own None e (Some (y ∷ q)) = refl

    -- what stands above one that is in use is in use
    in_use : (x z : Path) → (p ++ n ∷ []) ++ r ≡ x ++ z → 1 ≤ depth_of (tree_of t x)
    in_use x z e =
        let f = front_there x z e in
        let w = path_over (get t.nodes) t.root t.ordered t.sound ((p ++ n ∷ []) ++ r) x f.0 place.key named (ap (is_above x) e ∙ above_append x z) f.1 in
        let d = over_deep f.0 place.key w in
        let m = depth_tree (get t.nodes) t.root t.sound t.ordered x f.0 f.1 in
        omega arith

    pub deleted_is_gone : IsGone u place ((p ++ n ∷ []) ++ r) (length r)
    deleted_is_gone = record {
      stood = stood_along (held_of t) (held_of u) place.key ((p ++ n ∷ []) ++ r) (kept place.key ((p ++ n ∷ []) ++ r) named deep) (follow_stood (get t.nodes) t.root t.sound t.ordered ((p ++ n ∷ []) ++ r) place.key named);
      highest = highest r place.key named deep;
      idle = idle_there ((p ++ n ∷ []) ++ r) (tree_of u) (length r) (let x = length-append (p ++ n ∷ []) r in omega (arith, x))
          (λ x z e l. nobody x (at_or_below x z e l))
          (λ x z e l. let a = elsewhere x (before_it x z e l) in let b = in_use x z e in omega arith);
    }
      where
        at_or_below : (x z : Path) → (p ++ n ∷ []) ++ r ≡ x ++ z → length z ≤ length r → is_above (p ++ n ∷ []) x ≡ true
        at_or_below x z e l =
            let a = ap length e ∙ length-append x z in
            let b = length-append (p ++ n ∷ []) r in
            prefix_above (p ++ n ∷ []) x r z e (omega arith)

        before_it : (x z : Path) → (p ++ n ∷ []) ++ r ≡ x ++ z → length r < length z → is_above (p ++ n ∷ []) x ≡ false
        before_it x z e l = elim (above_cases (p ++ n ∷ []) x) [
          | inl w ↦
              let a = ap length e ∙ length-append x z in
              let b = length-append (p ++ n ∷ []) r in
              let c = ap length w.1 ∙ length-append (p ++ n ∷ []) w.0 in
              absurd (omega arith)
          | inr f ↦ f
        ]
