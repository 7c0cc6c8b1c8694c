-- Lemmas on interpreters that are gone.
use Rattle.std.proofs.Common.{◌≡◌, ℕ, zero, suc, pred, ◌+◌, ◌<◌, ◌≤◌, ◌^◌, Bool, true, false, ◌&&◌, length, refl, sym, ◌∙◌, ap, subst, inl, inr, arith, Option, Some, None}
use Rattle.std.specs.Prelude.{◌≢◌, ◌⊎◌, is_some, nat_le}
use Rattle.std.specs.Option.{option_map}
use Rattle.std.proofs.lemmas.Bool.{cases_eq}
use Rattle.std.proofs.lemmas.Bool.Decides.{nat_tests}
use Rattle.std.specs.Map.{keys_of, lookup}
use Rattle.std.specs.Str.{bytes_eq}
use Rattle.tcl_interpreter.specs.Nodes.{IsEased}
use Rattle.tcl_interpreter.specs.Paths.{Text, Path}
use Rattle.tcl_interpreter.specs.declared.node.Node.{Node}
use Rattle.tcl_tree.specs.Nodes.{Heap, view_of, child_in, follow, tree_in, link_in, level_in, children_in, IsSound, IsGuarded}
use Rattle.tcl_tree.specs.Held.{Held, Keys, held_by, held_in, above_at, depth_at, gone_at, Over, HighestGone, IsInnermost, Shallows, shallower, left_by, IsOrdered}
use Rattle.tcl_tree.specs.Held.Over.{here, up}
use Rattle.tcl_tree.specs.Held.HighestGone.{itself, further}
use Rattle.tcl_tree.proofs.HeapLemmas.{follow_along, tree-at, tree-none}
use Rattle.tcl_tree.proofs.StepLemmas.{child-at, child-eq, child-none, link-at, link-none, link-eq, level-eq, level-none, safe-eq, children-at, children-eq, children-none, level-at}
use Rattle.tcl_interpreter.specs.declared.node.Meter.TheVariants.{Back}
use Rattle.tcl_tree.proofs.DepthLemmas.{with_depth, stepped}
use Rattle.tcl_tree.proofs.HeldLemmas.{above-root, held-at, held-eq, held-none, no_above, not_gone, same_above, gone-there, above-there, above-link, over_next, not_over_above, follow_stands}

-- ## A table that differs at a key to which no names lead

pub record Beside (h h₁ : Heap) (root key : ℕ) : Type 0 where
  pub others : (k : ℕ) → k ≢ key → h₁ k ≡ h k
  pub bare : (n : Text) → child_in h key n ≡ None
  pub still_bare : (n : Text) → child_in h₁ key n ≡ None
  pub apart : key ≢ root
  pub orphan : (k : ℕ) (n : Text) (c : ℕ) → child_in h k n ≡ Some c → c ≢ key
  pub no_root : link_in h₁ key ≢ Some None
  pub fits : level_in h₁ key < 2 ^ 64
  pub few : children_in h₁ key ≤ 256

module _ (h h₁ : Heap) (root key : ℕ) (b : Beside h h₁ root key) where
  pub beside_child : (k : ℕ) (n : Text) → child_in h₁ k n ≡ child_in h k n
  beside_child k n = elim (cases_eq k key) [
    | inl same ↦ ap (λ j. child_in h₁ j n) same ∙ b.still_bare n ∙ sym (ap (λ j. child_in h j n) same ∙ b.bare n)
    | inr other ↦ child-eq h₁ h k n (b.others k other)
  ]

  -- a key that has a child is another one
  parent_apart : (k : ℕ) (n : Text) (c : ℕ) → child_in h k n ≡ Some c → k ≢ key
  parent_apart k n c e same = let x : ◌≡◌ {A = Option ℕ} None (Some c) = sym (ap (λ j. child_in h j n) same ∙ b.bare n) ∙ e in absurd (cc)

  pub beside_follow : (q : Path) (k : ℕ) → follow h₁ k q ≡ follow h k q
  beside_follow = follow_along h h₁ beside_child

  pub beside_sound : IsSound h root → IsSound h₁ root
  beside_sound s = record {
    top = link-eq h₁ h root (b.others root (λ e. b.apart (sym e))) ∙ s.top;
    down = λ k n c e. let f = sym (beside_child k n) ∙ e in link-eq h₁ h c (b.others c (b.orphan k n c f)) ∙ s.down k n c f;
    alone = λ c e. elim (cases_eq c key) [
      | inl same ↦ absurd (b.no_root (ap (link_in h₁) (sym same) ∙ e))
      | inr other ↦ s.alone c (sym (link-eq h₁ h c (b.others c other)) ∙ e)
    ];
    levels = λ k n c e.
        let f = sym (beside_child k n) ∙ e in
        let x = level-eq h₁ h c (b.others c (b.orphan k n c f)) in
        let y = level-eq h₁ h k (b.others k (parent_apart k n c f)) in
        let z = s.levels k n c f in
        omega arith;
    fits = λ k. elim (cases_eq k key) [
      | inl same ↦ let x = ap (level_in h₁) same in let y = b.fits in omega arith
      | inr other ↦ let x = level-eq h₁ h k (b.others k other) in let y = s.fits k in omega arith
    ];
  }

  pub beside_guarded : IsGuarded h → IsGuarded h₁
  beside_guarded g = record {
    safe = λ k n c e t.
        let f = sym (beside_child k n) ∙ e in
        safe-eq h₁ h c (b.others c (b.orphan k n c f)) ∙ g.safe k n c f (sym (safe-eq h₁ h k (b.others k (parent_apart k n c f))) ∙ t);
    few = λ k. elim (cases_eq k key) [
      | inl same ↦ let x = ap (children_in h₁) same in let y = b.few in omega arith
      | inr other ↦ let x = children-eq h₁ h k (b.others k other) in let y = g.few k in omega arith
    ];
  }

  pub beside_tree : ((q : Path) → follow h root q ≢ Some key) → (q : Path) → tree_in h₁ root q ≡ tree_in h root q
  beside_tree away q = by (follow h root q) refl
    where
      by : (o : Option ℕ) → follow h root q ≡ o → tree_in h₁ root q ≡ tree_in h root q
      by None e = tree-none h₁ root q (beside_follow q root ∙ e) ∙ sym (tree-none h root q e)
      by (Some k) e =
          tree-at h₁ root q k (beside_follow q root ∙ e)
          ∙ ap (option_map view_of) (b.others k (λ same. away q (e ∙ ap Some same)))
          ∙ sym (tree-at h root q k e)

-- ## A level of depth is taken from one that is gone

pred_one : (d : ℕ) → 1 ≤ d → pred d + 1 ≡ d
pred_one zero l = absurd (omega arith)
pred_one (suc d) l = omega arith

shallow_low : (x : Held) → x.gone ≡ true → x.depth ≤ 1 → shallower (Some x) ≡ None
shallow_low x g l =
    let test : nat_le x.depth 1 ≡ true = grind (arith, nat_tests) in
    (λ i. left_by (g i && test i) x)

shallow_high : (x : Held) → 1 < x.depth → shallower (Some x) ≡ Some (record x { depth = pred x.depth })
shallow_high x l =
    let test : nat_le x.depth 1 ≡ false = grind (arith, nat_tests) in
    ap (λ b. left_by (x.gone && b) x) test ∙ by x.gone
  where
    by : (b : Bool) → left_by (b && false) x ≡ Some (record x { depth = pred x.depth })
    by true = refl
    by false = refl

split : (d : ℕ) → (d ≤ 1) ⊎ (1 < d)
split d = grind arith

module _ (h h₁ : Heap) (root key : ℕ) (s : IsSound h root) (g : IsGuarded h) (o : IsOrdered h root) (node : Node) (is : h key ≡ Some node) (gone : node.gone ≡ true)
    (j : ℕ) (name : Text) (above : above_at (held_in h key) ≡ Some (j, name))
    (last : node.state.depth ≤ 1 → h₁ key ≡ None) (less : 1 < node.state.depth → (new : Node) × (h₁ key ≡ Some new) × IsEased node new) (others : (k : ℕ) → k ≢ key → h₁ k ≡ h k) where
  ease_gone : gone_at (held_in h key) ≡ true
  ease_gone = ap gone_at (held-at h key node is) ∙ gone

  -- what is left under the key: nothing, or the same but for its depth
  ease_cases : (h₁ key ≡ None) ⊎ ((new : Node) × (h₁ key ≡ Some new) × IsEased node new)
  ease_cases = elim (split node.state.depth) [
    | inl l ↦ inl (last l)
    | inr l ↦ inr (less l)
  ]

  pub ease_here : held_in h₁ key ≡ shallower (held_in h key)
  ease_here = elim (split node.state.depth) [
    | inl l ↦ held-none h₁ key (last l) ∙ sym (ap shallower (held-at h key node is) ∙ shallow_low (held_by node) gone l)
    | inr l ↦
        let w = less l in
        held-at h₁ key w.0 w.1
        ∙ (λ i. Some (record { above = option_map (λ k. (k, w.2.name i)) (w.2.parent i); depth = w.2.depth i; gone = w.2.gone i }))
        ∙ sym (ap shallower (held-at h key node is) ∙ shallow_high (held_by node) l)
  ]

  pub ease_others : (k : ℕ) → k ≢ key → held_in h₁ k ≡ held_in h k
  ease_others k other = held-eq h h₁ k (others k other)

  ease_bare : (n : Text) → child_in h₁ key n ≡ None
  ease_bare n = elim ease_cases [
    | inl e ↦ child-none h₁ key n e
    | inr e ↦ child-at h₁ key n e.0 e.1 ∙ ap (lookup (bytes_eq n)) e.2.children ∙ sym (child-at h key n node is) ∙ o.bare key n ease_gone
  ]

  ease_no_root : link_in h₁ key ≢ Some None
  ease_no_root e = elim ease_cases [
    | inl f ↦ let x : ◌≡◌ {A = Option (Option (ℕ × Text))} None (Some None) = sym (link-none h₁ key f) ∙ e in absurd (cc)
    | inr f ↦
        let was = above-link h key j name above in
        let same : link_in h key ≡ link_in h₁ key = link-at h key node is ∙ (λ i. Some (option_map (λ k. (k, (sym f.2.name) i)) ((sym f.2.parent) i))) ∙ sym (link-at h₁ key f.0 f.1) in
        let x : ◌≡◌ {A = Option (Option (ℕ × Text))} (Some (Some (j, name))) (Some None) = sym was ∙ same ∙ e in
        absurd (cc)
  ]

  pub ease_beside : Beside h h₁ root key
  ease_beside = record {
    others = others;
    bare = λ n. o.bare key n ease_gone;
    still_bare = ease_bare;
    apart = λ e. not_gone (gone_at (held_in h key)) ease_gone (ap (λ k. gone_at (held_in h k)) e ∙ o.root_stands);
    orphan = λ k n c e same. not_gone (gone_at (held_in h key)) ease_gone (ap (λ x. gone_at (held_in h x)) (sym same) ∙ o.stands k n c e);
    no_root = ease_no_root;
    fits = elim ease_cases [
      | inl e ↦ let x = level-none h₁ key e in omega arith
      | inr e ↦ let x = level-at h₁ key e.0 e.1 in let u = e.2.level in let y = level-at h key node is in let z = s.fits key in omega arith
    ];
    few = elim ease_cases [
      | inl e ↦ let x = children-none h₁ key e in omega arith
      | inr e ↦ let x = children-at h₁ key e.0 e.1 ∙ ap (λ es. length (keys_of es)) e.2.children in let y = children-at h key node is in let z = g.few key in omega (arith, x, y, z)
    ];
  }

  pub ease_away : (q : Path) → follow h root q ≢ Some key
  ease_away q e = not_gone (gone_at (held_in h key)) ease_gone (follow_stands h root s o q key e)

  -- what stands above what, and who is gone, is the same of those that are left
  ease_above : (c k : ℕ) (n : Text) → above_at (held_in h₁ c) ≡ Some (k, n) → above_at (held_in h c) ≡ Some (k, n)
  ease_above c k n e = elim (cases_eq c key) [
    | inl same ↦ ap (λ x. above_at (held_in h x)) same ∙ above_left (held_in h key) (sym (ap above_at (ap (held_in h₁) same ∙ ease_here)) ∙ e)
    | inr other ↦ sym (ap above_at (ease_others c other)) ∙ e
  ]
    where
      above_left : (x : Option Held) → above_at (shallower x) ≡ Some (k, n) → above_at x ≡ Some (k, n)
      above_left None e = e
      above_left (Some x) e = by (x.gone && nat_le x.depth 1) e
        where
          by : (b : Bool) → above_at (left_by b x) ≡ Some (k, n) → x.above ≡ Some (k, n)
          by true e = no_above (k, n) (above_at None) e refl
          by false e = e

  -- nobody is below one whose last level this is
  module _ (innermost : IsInnermost (held_in h) key) where
    below_less : (c : ℕ) (n : Text) → above_at (held_in h c) ≡ Some (key, n) → depth_at (held_in h c) < depth_at (held_in h key)
    below_less c n e = innermost c key n e here (λ w. not_over_above h root o c key n e w)

    ease_depth : depth_at (held_in h₁ key) + 1 ≡ depth_at (held_in h key)
    ease_depth =
        let one = o.used key ease_gone in
        let x = ap depth_at ease_here in
        let y = left_depth (held_in h key) (gone-there (held_in h key) ease_gone) in
        ap (λ n. n + 1) (x ∙ y) ∙ pred_one (depth_at (held_in h key)) one
      where
        left_depth : (x : Option Held) → is_some x ≡ true → depth_at (shallower x) ≡ pred (depth_at x)
        left_depth None t = refl
        left_depth (Some x) t = by (x.gone && nat_le x.depth 1) (test x.gone)
          where
            test : (b : Bool) → (b && nat_le x.depth 1) ≡ true → x.depth ≤ 1
            test true e = grind (arith, nat_tests)
            test false e = let z : false ≡ true = e in cc

            by : (b : Bool) → (b ≡ true → x.depth ≤ 1) → depth_at (left_by b x) ≡ pred x.depth
            by true h = let z = h refl in low x.depth z
              where
                low : (d : ℕ) → d ≤ 1 → 0 ≡ pred d
                low zero z = refl
                low (suc d) z = omega arith
            by false h = refl

    -- who has one below it is left
    ease_left : (c : ℕ) (n : Text) → above_at (held_in h c) ≡ Some (key, n) → 1 ≤ depth_at (held_in h₁ key)
    ease_left c n e = by (gone_at (held_in h c)) refl
      where
        by : (b : Bool) → gone_at (held_in h c) ≡ b → 1 ≤ depth_at (held_in h₁ key)
        by true f = let x = o.used c f in let y = below_less c n e in let z = ease_depth in omega arith
        by false f = let x : ◌≡◌ {A = Option ℕ} None (Some c) = sym (o.bare key n ease_gone) ∙ o.child c key n f e in absurd (cc)

    left_there : (x : Option Held) → 1 ≤ depth_at x → is_some x ≡ true
    left_there None l = absurd (omega arith)
    left_there (Some x) l = refl

    ease_level : is_some (held_in h₁ key) ≡ true → level_in h₁ key ≡ level_in h key
    ease_level t = elim ease_cases [
      | inl e ↦ not_gone (is_some (held_in h₁ key)) t (ap (λ x. is_some x) (held-none h₁ key e))
      | inr e ↦ level-at h₁ key e.0 e.1 ∙ e.2.level ∙ sym (level-at h key node is)
    ]

    pub ease_ordered : IsOrdered h₁ root
    ease_ordered = record {
      root_stands = ap gone_at (ease_others root (λ e. ease_beside.apart (sym e))) ∙ o.root_stands;
      stands = λ k n c e.
          let f = sym (beside_child h h₁ root key ease_beside k n) ∙ e in
          ap gone_at (ease_others c (ease_beside.orphan k n c f)) ∙ o.stands k n c f;
      child = λ c k n f e. elim (cases_eq c key) [
        | inl same ↦ not_gone (gone_at (held_in h₁ c)) (still c same (above-there (held_in h₁ c) (k, n) e)) f
        | inr other ↦ beside_child h h₁ root key ease_beside k n ∙ o.child c k n (sym (ap gone_at (ease_others c other)) ∙ f) (ease_above c k n e)
      ];
      bare = λ k n f. elim (cases_eq k key) [
        | inl same ↦ ap (λ x. child_in h₁ x n) same ∙ ease_bare n
        | inr other ↦ beside_child h h₁ root key ease_beside k n ∙ o.bare k n (sym (ap gone_at (ease_others k other)) ∙ f)
      ];
      there = λ c k n e.
          let f = ease_above c k n e in
          elim (cases_eq k key) [
            | inl same ↦ ap (λ x. is_some (held_in h₁ x)) same ∙ left_there (held_in h₁ key) (ease_left c n (f ∙ ap (λ x. Some (x, n)) same))
            | inr other ↦ ap (λ x. is_some x) (ease_others k other) ∙ o.there c k n f
          ];
      levels = λ c k n e.
          let f = ease_above c k n e in
          let z = o.levels c k n f in
          let x = level_of c (above-there (held_in h₁ c) (k, n) e) in
          let y : level_in h₁ k ≡ level_in h k = elim (cases_eq k key) [
            | inl same ↦ ap (level_in h₁) same ∙ ease_level (left_there (held_in h₁ key) (ease_left c n (f ∙ ap (λ x. Some (x, n)) same))) ∙ sym (ap (level_in h) same)
            | inr other ↦ level-eq h₁ h k (others k other)
          ] in
          omega arith;
      depths = λ c k n e.
          let f = ease_above c k n e in
          let z = o.depths c k n f in
          elim (cases_eq k key) [
            | inl same ↦
                let b = below_less c n (f ∙ ap (λ x. Some (x, n)) same) in
                let c_other : c ≢ key = λ e. let l = o.levels c k n f in let m = ap (level_in h) (e ∙ sym same) in absurd (omega arith) in
                let x = ap depth_at (ease_others c c_other) in
                let y = ap (λ i. depth_at (held_in h₁ i)) same in
                let d = ease_depth in
                omega arith
            | inr other ↦
                let y = ap depth_at (ease_others k other) in
                elim (cases_eq c key) [
                  | inl same ↦
                      let x = ap (λ i. depth_at (held_in h₁ i)) same in
                      let w = ap (λ i. depth_at (held_in h i)) same in
                      let d = ease_depth in
                      omega arith
                  | inr apart ↦ let x = ap depth_at (ease_others c apart) in omega arith
                ]
          ];
      used = λ k f. elim (cases_eq k key) [
        | inl same ↦
            let t = left_used (held_in h key) ease_gone (gone-there (held_in h₁ key) (ap (λ i. gone_at (held_in h₁ i)) (sym same) ∙ f)) in
            let x = ap (λ i. depth_at (held_in h₁ i)) same in
            omega arith
        | inr other ↦ let x = ap depth_at (ease_others k other) in let y = o.used k (sym (ap gone_at (ease_others k other)) ∙ f) in omega arith
      ];
    }
      where
        still : (c : ℕ) → c ≡ key → is_some (held_in h₁ c) ≡ true → gone_at (held_in h₁ c) ≡ true
        still c same t = ap (λ i. gone_at (held_in h₁ i)) same ∙ by ease_cases
          where
            by : (h₁ key ≡ None) ⊎ ((new : Node) × (h₁ key ≡ Some new) × IsEased node new) → gone_at (held_in h₁ key) ≡ true
            by (inl e) = not_gone (is_some (held_in h₁ key)) (ap (λ i. is_some (held_in h₁ i)) (sym same) ∙ t) (ap (λ x. is_some x) (held-none h₁ key e))
            by (inr e) = ap gone_at (held-at h₁ key e.0 e.1) ∙ e.2.gone ∙ gone

        level_of : (c : ℕ) → is_some (held_in h₁ c) ≡ true → level_in h₁ c ≡ level_in h c
        level_of c t = elim (cases_eq c key) [
          | inl same ↦ ap (level_in h₁) same ∙ ease_level (ap (λ i. is_some (held_in h₁ i)) (sym same) ∙ t) ∙ sym (ap (level_in h) same)
          | inr other ↦ level-eq h₁ h c (others c other)
        ]

        left_used : (x : Option Held) → gone_at x ≡ true → is_some (held_in h₁ key) ≡ true → 1 ≤ depth_at (held_in h₁ key)
        left_used x g t = by (held_in h key) ease_here ease_gone
          where
            by : (y : Option Held) → held_in h₁ key ≡ shallower y → gone_at y ≡ true → 1 ≤ depth_at (held_in h₁ key)
            by None e g = let z : false ≡ true = g in cc
            by (Some y) e g = cases (y.gone && nat_le y.depth 1) refl e
              where
                deep : (d : ℕ) → nat_le d 1 ≡ false → 2 ≤ d
                deep d e = grind (arith, nat_tests)

                cases : (b : Bool) → (y.gone && nat_le y.depth 1) ≡ b → held_in h₁ key ≡ left_by b y → 1 ≤ depth_at (held_in h₁ key)
                cases true f e = not_gone (is_some (held_in h₁ key)) t (ap (λ x. is_some x) e)
                cases false f e =
                    let x : nat_le y.depth 1 ≡ false = sym (ap (λ b. b && nat_le y.depth 1) g) ∙ f in
                    let d = ap depth_at e in
                    let l = deep y.depth x in
                    let z = pred_one y.depth (omega arith) in
                    omega arith

    -- the way up from the next one is as it was
    ease_over : (a : ℕ) → Over (held_in h) a j → Over (held_in h₁) a j
    ease_over a w = along a j (not_over_above h root o key j name above) w
      where
        along : (a k : ℕ) → (Over (held_in h) key k → Prim.⊥) → Over (held_in h) a k → Over (held_in h₁) a k
        along a k n here = here
        along a k n (up {j = i} m e w) =
            let other : k ≢ key = λ same. n (subst (λ y. Over (held_in h) key y) (sym same) here) in
            up m (ap above_at (ease_others k other) ∙ e) (along a i (λ v. n (up m e v)) w)

    ease_over_back : (a : ℕ) → Over (held_in h₁) a j → Over (held_in h) a j
    ease_over_back a w = along a j w
      where
        along : (a k : ℕ) → Over (held_in h₁) a k → Over (held_in h) a k
        along a k here = here
        along a k (up {j = i} m e w) = up m (ease_above k i m e) (along a i w)

    -- the evaluation that ends is in use more deeply on the rest of the way, too
    pub ease_innermost : IsInnermost (held_in h₁) j
    ease_innermost c k n e w apart =
        let f = ease_above c k n e in
        let v = ease_over_back k w in
        let k_other : k ≢ key = λ same. not_over_above h root o key j name above (subst (λ x. Over (held_in h) x j) same v) in
        let y = ap depth_at (ease_others k k_other) in
        elim (cases_eq c key) [
          | inl same ↦
              let x = ap (λ i. depth_at (held_in h₁ i)) same in
              let u = ap (λ i. depth_at (held_in h i)) same in
              let d = ease_depth in
              let z = o.depths c k n f in
              omega arith
          | inr other ↦
              let x = ap depth_at (ease_others c other) in
              let z = innermost c k n f (up name above v) (λ t. apart (ease_over c (over_next (held_in h) c key j name (λ e. other (sym e)) above t))) in
              omega arith
        ]

    -- what is then lowered from the next one on was lowered from here on
    pub ease_then : (H : Keys) → Shallows (held_in h₁) j H → Shallows (held_in h) key H
    ease_then H t = record {
      over = λ a w. elim (cases_eq key a) [
        | inl same ↦
            ap H (sym same) ∙ t.others key (λ v. not_over_above h root o key j name above (ease_over_back key v))
            ∙ ease_here ∙ ap (λ k. shallower (held_in h k)) same
        | inr other ↦
            let v = over_next (held_in h) a key j name other above w in
            t.over a (ease_over a v) ∙ ap shallower (ease_others a (λ e. other (sym e)))
      ];
      others = λ a n.
          let other : a ≢ key = λ e. n (subst (λ x. Over (held_in h) a x) e here) in
          t.others a (λ v. n (up name above (ease_over_back a v))) ∙ ease_others a other;
    }

-- ## How many levels up the highest is that is gone

pub highest_gone : (H : Keys) (k n : ℕ) → HighestGone H k n → gone_at (H k) ≡ true
highest_gone H k n (itself m g a s) = g
highest_gone H k n (further m g a r) = g

pub highest_same : (H : Keys) (k n m : ℕ) → HighestGone H k n → HighestGone H k m → n ≡ m
highest_same H k n m (itself x g a s) (itself y h b t) = refl
highest_same H k n m (itself {j = i} x g a s) (further {j = j} {m = l} y h b r) =
    not_gone (gone_at (H j)) (highest_gone H j l r) (ap (λ z. gone_at (H z)) (sym (same_above i j x y (sym a ∙ b)).0) ∙ s)
highest_same H k n m (further {j = j} {m = l} x g a r) (itself {j = i} y h b t) =
    not_gone (gone_at (H j)) (highest_gone H j l r) (ap (λ z. gone_at (H z)) (sym (same_above i j y x (sym b ∙ a)).0) ∙ t)
highest_same H k n m (further {j = i} {m = p} x g a r) (further {j = j} {m = q} y h b t) =
    ap (λ z. suc z) (highest_same H i p q r (subst (λ z. HighestGone H z q) (sym (same_above i j x y (sym a ∙ b)).0) t))

-- ## Nodes

pub node_there : (h : Heap) (k : ℕ) → is_some (held_in h k) ≡ true → (node : Node) × (h k ≡ Some node)
node_there h k there = by (h k) refl
  where
    by : (x : Option Node) → h k ≡ x → (node : Node) × (h k ≡ Some node)
    by None e = not_gone (is_some (held_in h k)) there (ap (λ x. is_some x) (held-none h k e))
    by (Some node) e = (node, e)

pub node_gone : (h : Heap) (k : ℕ) (node : Node) → h k ≡ Some node → gone_at (held_in h k) ≡ node.gone
node_gone h k node is = ap gone_at (held-at h k node is)

pub node_above : (h : Heap) (k j : ℕ) (node : Node) → h k ≡ Some node → node.parent ≡ Some j → above_at (held_in h k) ≡ Some (j, node.name)
node_above h k j node is parent = ap above_at (held-at h k node is) ∙ ap (option_map (λ i. (i, node.name))) parent

-- one that is gone has a parent
pub gone_parent : (h : Heap) (root k : ℕ) (node : Node) → IsSound h root → IsOrdered h root → h k ≡ Some node → node.gone ≡ true → node.parent ≢ None
gone_parent h root k node s o is gone none =
    let there = ap (λ x. is_some x) (held-at h k node is) in
    let above = ap above_at (held-at h k node is) ∙ ap (option_map (λ i. (i, node.name))) none in
    let same = s.alone k (above-root h k there above) in
    not_gone (gone_at (held_in h k)) (node_gone h k node is ∙ gone) (ap (λ i. gone_at (held_in h i)) same ∙ o.root_stands)

-- ## What is lowered of one that stands

pub shallow_stands : (x : Option Held) → gone_at x ≡ false → option_map (with_depth (stepped Back)) x ≡ shallower x
shallow_stands None e = refl
shallow_stands (Some x) e = ap (λ b. left_by (b && nat_le x.depth 1) x) (sym e)

pub less_pred : (d e : ℕ) → d < e → d ≤ pred e
less_pred d zero l = absurd (omega arith)
less_pred d (suc e) l = omega arith
