-- Lemmas on a table of nodes.
use Rattle.std.proofs.Common.{◌≡◌, ℕ, ◌+◌, ◌<◌, ◌≤◌, ◌^◌, Bool, true, false, List, length, cond, [], ◌∷◌, ◌++◌, refl, sym, ◌∙◌, ap, inl, inr, arith, Option, Some, None}
use Rattle.std.specs.Prelude.{◌≢◌, ◌⊎◌}
use Rattle.std.specs.Option.{option_and_then, option_map, option_map_or}
use Rattle.std.specs.Str.{bytes_eq}
use Rattle.std.proofs.lemmas.Bool.{cases_eq}
use Rattle.std.proofs.lemmas.Slice.Eq.{bytes_eq-Decides}
use Rattle.std.proofs.lemmas.Option.{some_pair_parts, same_Some}
use Rattle.indexmap.specs.IndexMap.{get, keys}
use Rattle.std.specs.Map.{lookup, keys_of}
use Rattle.tcl_interpreter.specs.Paths.{Text, Path, path_eq, with_node}
use Rattle.tcl_tree.specs.Nodes.{Heap, Shape, view_of, link_of, shape_of, place_of, view_shape, child_in, follow, tree_in, link_in, level_in, safe_in, children_in, IsSound, IsGuarded}
use Rattle.tcl_interpreter.specs.declared.node.Node.{Node}
use Rattle.tcl_interpreter.proofs.Outcomes.{clash}
use Rattle.tcl_interpreter.proofs.PathLemmas.{snoc_ind, ends_cases, snoc_not_empty, snoc_same, snoc_longer, path_cases, text_cases}

pub follow-snoc : (h : Heap) (p : Path) (k : ℕ) (n : Text) → follow h k (p ++ n ∷ []) ≡ option_and_then (λ c. child_in h c n) (follow h k p)
unfolding follow
follow-snoc h [] k n = by (child_in h k n)
  where
    by : (o : Option ℕ) → option_and_then (λ c. Some c) o ≡ o
    by None = refl
    by (Some c) = refl
follow-snoc h (m ∷ p) k n = by (child_in h k m) (λ c. follow-snoc h p c n)
  where
    by : (o : Option ℕ) → ((c : ℕ) → follow h c (p ++ n ∷ []) ≡ option_and_then (λ d. child_in h d n) (follow h c p)) → option_and_then (λ c. follow h c (p ++ n ∷ [])) o ≡ option_and_then (λ c. child_in h c n) (option_and_then (λ c. follow h c p) o)
    by None ih = refl
    by (Some c) ih = ih c

pub same_link : (a b : ℕ) (n m : Text) → ◌≡◌ {A = Option (Option (ℕ × Text))} (Some (Some (a, n))) (Some (Some (b, m))) → (a ≡ b) × (n ≡ m)
same_link a b n m e = some_pair_parts a b n m (same_Some _ _ e)

pub follow-nil : (h : Heap) (k : ℕ) → follow h k [] ≡ Some k
unfolding follow
follow-nil h k = refl

-- where a path with a last name leads, its front leads to the parent
pub record Last (h : Heap) (root : ℕ) (p : Path) (n : Text) (c : ℕ) : Type 0 where
  pub parent : ℕ
  pub front : follow h root p ≡ Some parent
  pub child : child_in h parent n ≡ Some c

pub last_step : (h : Heap) (root : ℕ) (p : Path) (n : Text) (c : ℕ) → follow h root (p ++ n ∷ []) ≡ Some c → Last h root p n c
last_step h root p n c e = by (follow h root p) refl (sym (follow-snoc h p root n) ∙ e)
  where
    by : (o : Option ℕ) → follow h root p ≡ o → option_and_then (λ k. child_in h k n) o ≡ Some c → Last h root p n c
    by None f g = let x : None ≡ Some c = g in cc
    by (Some k) f g = record { parent = k; front = f; child = g }

pub then_child : (h : Heap) (root : ℕ) (p : Path) (n : Text) (k : ℕ) → follow h root p ≡ Some k → follow h root (p ++ n ∷ []) ≡ child_in h k n
then_child h root p n k e = follow-snoc h p root n ∙ ap (λ o. option_and_then (λ c. child_in h c n) o) e

pub then_none : (h : Heap) (root : ℕ) (p : Path) (n : Text) → follow h root p ≡ None → follow h root (p ++ n ∷ []) ≡ None
then_none h root p n e = follow-snoc h p root n ∙ ap (λ o. option_and_then (λ c. child_in h c n) o) e

module _ (h : Heap) (root : ℕ) (s : IsSound h root) where
  -- a path leads to one key, and to each key leads at most one path
  pub one_path : (p q : Path) (k : ℕ) → follow h root p ≡ Some k → follow h root q ≡ Some k → p ≡ q
  one_path = snoc_ind (λ p. (q : Path) (k : ℕ) → follow h root p ≡ Some k → follow h root q ≡ Some k → p ≡ q) base step
    where
      base : (q : Path) (k : ℕ) → follow h root [] ≡ Some k → follow h root q ≡ Some k → [] ≡ q
      base q k e f = elim (ends_cases q) [
        | inl same ↦ sym same
        | inr w ↦
            let l = last_step h root w.front w.last k (ap (follow h root) (sym w.is) ∙ f) in
            let d = s.down _ _ _ l.child in
            let t = s.top in
            let r = follow-nil h root in
            absurd (grind arith)
      ]

      step : (p : Path) (n : Text) → ((q : Path) (k : ℕ) → follow h root p ≡ Some k → follow h root q ≡ Some k → p ≡ q) → (q : Path) (k : ℕ) → follow h root (p ++ n ∷ []) ≡ Some k → follow h root q ≡ Some k → p ++ n ∷ [] ≡ q
      step p n ih q k e f =
          let a = last_step h root p n k e in
          let da = s.down _ _ _ a.child in
          elim (ends_cases q) [
            | inl same ↦
                let t = s.top in
                let r = follow-nil h root in
                absurd (grind arith)
            | inr w ↦
                let b = last_step h root w.front w.last k (ap (follow h root) (sym w.is) ∙ f) in
                let db = s.down _ _ _ b.child in
                let same = same_link a.parent b.parent n w.last (sym da ∙ db) in
                let fronts = ih w.front a.parent a.front (b.front ∙ ap Some (sym same.0)) in
                (λ i. fronts i ++ same.1 i ∷ []) ∙ sym w.is
          ]

  pub linked : (p : Path) (k : ℕ) → follow h root p ≡ Some k → link_in h k ≢ None
  linked p k e none = elim (ends_cases p) [
    | inl same ↦
        let t = s.top in
        let r = follow-nil h root in
        grind arith
    | inr w ↦
        let l = last_step h root w.front w.last k (ap (follow h root) (sym w.is) ∙ e) in
        let d = s.down _ _ _ l.child in
        grind arith
  ]

pub tree-at : (h : Heap) (root : ℕ) (q : Path) (k : ℕ) → follow h root q ≡ Some k → tree_in h root q ≡ option_map view_of (h k)
unfolding tree_in
tree-at h root q k e = ap (option_and_then (λ k. option_map view_of (h k))) e

pub tree-none : (h : Heap) (root : ℕ) (q : Path) → follow h root q ≡ None → tree_in h root q ≡ None
unfolding tree_in
tree-none h root q e = ap (option_and_then (λ k. option_map view_of (h k))) e

-- h₁ is h with one more node, which has no children
pub record Grows (h h₁ : Heap) (pk : ℕ) (name : Text) (nk : ℕ) : Type 0 where
  pub child_new : (n : Text) → child_in h₁ nk n ≡ None
  pub child_was : (n : Text) → child_in h nk n ≡ None
  pub child_parent : (n : Text) → child_in h₁ pk n ≡ cond (bytes_eq name n) (Some nk) (child_in h pk n)
  pub child_other : (k : ℕ) (n : Text) → k ≢ pk → k ≢ nk → child_in h₁ k n ≡ child_in h k n
  pub link_new : link_in h₁ nk ≡ Some (Some (pk, name))
  pub link_was : link_in h nk ≡ None
  pub link_other : (k : ℕ) → k ≢ nk → link_in h₁ k ≡ link_in h k
  pub level_new : level_in h₁ nk ≡ level_in h pk + 1
  pub level_other : (k : ℕ) → k ≢ nk → level_in h₁ k ≡ level_in h k
  pub absent : child_in h pk name ≡ None
  pub level_was : level_in h nk ≡ 0
  pub fits : level_in h pk + 1 < 2 ^ 64
  pub apart : pk ≢ nk

module _ (h h₁ : Heap) (root pk : ℕ) (name : Text) (nk : ℕ) (g : Grows h h₁ pk name nk) where
  child_at : (k : ℕ) (n : Text) → ((k ≡ nk) × (child_in h₁ k n ≡ None) × (child_in h k n ≡ None))
      ⊎ (((k ≡ pk) × (n ≡ name) × (child_in h₁ k n ≡ Some nk) × (child_in h k n ≡ None))
      ⊎ ((child_in h₁ k n ≡ child_in h k n) × (k ≢ nk)))
  child_at k n = elim (cases_eq k nk) [
    | inl same ↦ inl (same, ap (λ x. child_in h₁ x n) same ∙ g.child_new n, ap (λ x. child_in h x n) same ∙ g.child_was n)
    | inr other ↦ inr (elim (cases_eq k pk) [
      | inl same ↦
          let at : child_in h₁ k n ≡ cond (bytes_eq name n) (Some nk) (child_in h pk n) = ap (λ x. child_in h₁ x n) same ∙ g.child_parent n in
          elim (text_cases name n) [
            | inl w ↦ inl (same, sym w.0, at ∙ ap (λ b. cond b (Some nk) (child_in h pk n)) w.1, (λ i. child_in h (same i) (sym w.0 i)) ∙ g.absent)
            | inr w ↦ inr (at ∙ ap (λ b. cond b (Some nk) (child_in h pk n)) w.1 ∙ sym (ap (λ x. child_in h x n) same), other)
          ]
      | inr apart ↦ inr (g.child_other k n apart other, other)
    ])
  ]

  link_at : (k : ℕ) → ((k ≡ nk) × (link_in h₁ k ≡ Some (Some (pk, name))) × (link_in h k ≡ None) × (level_in h₁ k ≡ level_in h pk + 1))
      ⊎ ((link_in h₁ k ≡ link_in h k) × (level_in h₁ k ≡ level_in h k) × (k ≢ nk))
  link_at k = elim (cases_eq k nk) [
    | inl same ↦ inl (same, ap (link_in h₁) same ∙ g.link_new, ap (link_in h) same ∙ g.link_was, ap (level_in h₁) same ∙ g.level_new)
    | inr other ↦ inr (g.link_other k other, g.level_other k other, other)
  ]

  named : child_in h₁ pk name ≡ Some nk
  named = g.child_parent name ∙ ap (λ b. cond b (Some nk) (child_in h pk name)) ((bytes_eq-Decides name name).1 refl)

  -- a table that grew is sound
  pub sound-grows : IsSound h root → IsSound h₁ root
  sound-grows s = record {
    top = let w = link_at root in let t = s.top in grind arith;
    down = λ k n c e. let w = child_at k n in let v = link_at c in let d = s.down k n c in let l = g.link_new in grind arith;
    alone = λ c e. let v = link_at c in let a = s.alone c in grind arith;
    levels = λ k n c e. let w = child_at k n in let v = link_at c in let x = link_at k in let d = s.down k n c in let l = s.levels k n c in grind arith;
    fits = λ k. let v = link_at k in let f = s.fits k in let t = g.fits in grind arith;
  }

  -- so is the table before, where the grown one is
  pub sound-shrinks : IsSound h₁ root → IsSound h root
  sound-shrinks s = record {
    top = let w = link_at root in let t = s.top in grind arith;
    down = λ k n c e. elim (link_at c) [
      | inl v ↦
          let w = child_at k n in
          let d : link_in h₁ c ≡ Some (Some (k, n)) = s.down k n c (grind arith) in
          let same = same_link pk k name n (sym v.1 ∙ d) in
          let x : child_in h k n ≡ None = (λ i. child_in h (sym same.0 i) (sym same.1 i)) ∙ g.absent in
          cc
      | inr v ↦ let w = child_at k n in let d = s.down k n c in grind arith
    ];
    alone = λ c e. let v = link_at c in let a = s.alone c in grind arith;
    levels = λ k n c e. let w = child_at k n in let v = link_at c in let x = link_at k in let d = s.down k n c in let l = s.levels k n c in grind arith;
    fits = λ k. elim (cases_eq k nk) [
      | inl e ↦ let f = s.fits k in let z = ap (level_in h) e ∙ g.level_was in omega arith
      | inr other ↦ let f = s.fits k in let z = g.level_other k other in omega arith
    ];
  }

  -- what is guarded stays so as the table grows
  pub guarded-grows : IsSound h root → IsGuarded h → ((k : ℕ) → k ≢ nk → safe_in h₁ k ≡ safe_in h k) → (safe_in h pk ≡ true → safe_in h₁ nk ≡ true) → ((k : ℕ) → children_in h₁ k ≤ 256) → IsGuarded h₁
  guarded-grows s t others new few = record {
    safe = λ k n c e f. elim (child_at k n) [
      | inl w ↦ let x : None ≡ Some c = sym w.1 ∙ e in cc
      | inr w ↦ elim w [
        | inl v ↦
            let here : Some nk ≡ Some c = sym v.2 ∙ e in
            let parent : safe_in h pk ≡ true = sym (others pk g.apart) ∙ ap (safe_in h₁) (sym v.0) ∙ f in
            ap (safe_in h₁) (sym (same_Some _ _ here)) ∙ new parent
        | inr v ↦
            let was : child_in h k n ≡ Some c = sym v.0 ∙ e in
            let other : c ≢ nk = λ same. clash (Some (k, n)) (sym g.link_was ∙ ap (link_in h) (sym same) ∙ s.down k n c was) in
            others c other ∙ t.safe k n c was (sym (others k v.1) ∙ f)
      ]
    ];
    few = few;
  }

  -- and as it shrinks
  pub guarded-shrinks : IsSound h₁ root → IsGuarded h₁ → ((k : ℕ) → k ≢ nk → safe_in h₁ k ≡ safe_in h k) → ((k : ℕ) → children_in h k ≤ children_in h₁ k) → IsGuarded h
  guarded-shrinks s t others less = record {
    safe = λ k n c e f. elim (child_at k n) [
      | inl w ↦ let x : None ≡ Some c = sym w.2 ∙ e in cc
      | inr w ↦ elim w [
        | inl v ↦ let x : None ≡ Some c = sym v.3 ∙ e in cc
        | inr v ↦
            let now : child_in h₁ k n ≡ Some c = v.0 ∙ e in
            let other : c ≢ nk = λ same.
            let link : ◌≡◌ {A = Option (Option (ℕ × Text))} (Some (Some (pk, name))) (Some (Some (k, n))) = sym g.link_new ∙ ap (link_in h₁) (sym same) ∙ s.down k n c now in
            let parts = same_link pk k name n link in
            let x : None ≡ Some c = sym g.absent ∙ (λ i. child_in h (parts.0 i) (parts.1 i)) ∙ e in
            cc in
            sym (others c other) ∙ t.safe k n c now (others k v.1 ∙ f)
      ]
    ];
    few = λ k. let f = t.few k in let l = less k in omega arith;
  }

  module _ (s : IsSound h root) (p : Path) (at : follow h root p ≡ Some pk) where
    -- the new node has the new path, and the others keep theirs
    pub follow-grows : (q : Path) → follow h₁ root q ≡ cond (path_eq q (p ++ name ∷ [])) (Some nk) (follow h root q)
    follow-grows = snoc_ind (λ q. follow h₁ root q ≡ cond (path_eq q (p ++ name ∷ [])) (Some nk) (follow h root q)) base step
      where
        base : follow h₁ root [] ≡ cond (path_eq [] (p ++ name ∷ [])) (Some nk) (follow h root [])
        base =
            let w = path_cases [] (p ++ name ∷ []) in
            let x = snoc_not_empty p name in
            let y = follow-nil h root in
            let z = follow-nil h₁ root in
            elim w [
              | inl v ↦ absurd (x (sym v.0))
              | inr v ↦ z ∙ sym y ∙ ap (λ b. cond b (Some nk) (follow h root [])) (sym v.1)
            ]

        step : (q : Path) (n : Text) → follow h₁ root q ≡ cond (path_eq q (p ++ name ∷ [])) (Some nk) (follow h root q)
            → follow h₁ root (q ++ n ∷ []) ≡ cond (path_eq (q ++ n ∷ []) (p ++ name ∷ [])) (Some nk) (follow h root (q ++ n ∷ []))
        step q n ih = by (follow h root q) refl
          where
            by : (o : Option ℕ) → follow h root q ≡ o → follow h₁ root (q ++ n ∷ []) ≡ cond (path_eq (q ++ n ∷ []) (p ++ name ∷ [])) (Some nk) (follow h root (q ++ n ∷ []))
            by None e =
                let w = path_cases q (p ++ name ∷ []) in
                let v = path_cases (q ++ n ∷ []) (p ++ name ∷ []) in
                let longer = snoc_longer q n in
                let same = snoc_same q p n name in
                let none = then_none h root q n e in
                let none₁ = then_none h₁ root q n in
                let child₁ = then_child h₁ root q n nk in
                let new = g.child_new n in
                let moved = ap (follow h root) {x = q} {y = p} in
                grind arith
            by (Some k) e =
                let w = path_cases q (p ++ name ∷ []) in
                let v = path_cases (q ++ n ∷ []) (p ++ name ∷ []) in
                let same = snoc_same q p n name in
                let there = linked h root s q k e in
                let absent = then_child h root p name pk at ∙ g.absent in
                let moved = ap (follow h root) {x = q} {y = p ++ name ∷ []} in
                let child = then_child h root q n k e in
                let child₁ = then_child h₁ root q n k in
                let now = child_at k n in
                let one = one_path h root s q p k e in
                let was = g.link_was in
                let named₁ = named in
                grind arith

    pub tree-grows : (new nd₁ : Node) → h₁ nk ≡ Some new → h₁ pk ≡ Some nd₁ → ((k : ℕ) → k ≢ pk → k ≢ nk → h₁ k ≡ h k)
        → (q : Path) → tree_in h₁ root q ≡ with_node (with_node (tree_in h root) p (Some (view_of nd₁))) (p ++ name ∷ []) (Some (view_of new)) q
    unfolding with_node
    tree-grows new nd₁ is_new is_nd₁ rest q = by (follow h root q) refl
      where
        by : (o : Option ℕ) → follow h root q ≡ o → tree_in h₁ root q ≡ cond (path_eq q (p ++ name ∷ [])) (Some (view_of new)) (cond (path_eq q p) (Some (view_of nd₁)) (tree_in h root q))
        by None e =
            let w = path_cases q (p ++ name ∷ []) in
            let v = path_cases q p in
            let f = follow-grows q in
            let moved = ap (follow h root) {x = q} {y = p} in
            let t = tree-none h root q e in
            let t₁ = tree-none h₁ root q in
            let tn = tree-at h₁ root q nk in
            let view = ap (option_map view_of) is_new in
            grind arith
        by (Some k) e =
            let w = path_cases q (p ++ name ∷ []) in
            let v = path_cases q p in
            let f = follow-grows q in
            let there = linked h root s q k e in
            let was = g.link_was in
            let moved = ap (follow h root) {x = q} {y = p} in
            let one = one_path h root s q p k e in
            let t = tree-at h root q k e in
            let t₁ = tree-at h₁ root q k in
            let tn = tree-at h₁ root q nk in
            let view = ap (option_map view_of) is_new in
            let view₁ = ap (option_map view_of) is_nd₁ in
            let rests : k ≢ pk → k ≢ nk → option_map view_of (h₁ k) ≡ option_map view_of (h k) = λ a b. ap (option_map view_of) (rest k a b) in
            let ks = cases_eq k nk in
            let ps = cases_eq k pk in
            let links = ap (link_in h) {x = k} {y = nk} in
            let heaps = ap h₁ {x = k} {y = pk} in
            grind arith

    pub tree-shrinks : (nd : Node) → h pk ≡ Some nd → ((k : ℕ) → k ≢ pk → k ≢ nk → h k ≡ h₁ k)
        → (q : Path) → tree_in h root q ≡ with_node (with_node (tree_in h₁ root) p (Some (view_of nd))) (p ++ name ∷ []) None q
    unfolding with_node
    tree-shrinks nd is_nd rest q = by (follow h root q) refl
      where
        by : (o : Option ℕ) → follow h root q ≡ o → tree_in h root q ≡ cond (path_eq q (p ++ name ∷ [])) None (cond (path_eq q p) (Some (view_of nd)) (tree_in h₁ root q))
        by None e =
            let w = path_cases q (p ++ name ∷ []) in
            let v = path_cases q p in
            let f = follow-grows q in
            let moved = ap (follow h root) {x = q} {y = p} in
            let t = tree-none h root q e in
            let t₁ = tree-none h₁ root q in
            grind arith
        by (Some k) e =
            let w = path_cases q (p ++ name ∷ []) in
            let v = path_cases q p in
            let f = follow-grows q in
            let there = linked h root s q k e in
            let was = g.link_was in
            let moved = ap (follow h root) {x = q} {y = p} in
            let moved₁ = ap (follow h root) {x = q} {y = p ++ name ∷ []} in
            let absent = then_child h root p name pk at ∙ g.absent in
            let one = one_path h root s q p k e in
            let t = tree-at h root q k e in
            let t₁ = tree-at h₁ root q k in
            let view = ap (option_map view_of) is_nd in
            let rests : k ≢ pk → k ≢ nk → option_map view_of (h k) ≡ option_map view_of (h₁ k) = λ a b. ap (option_map view_of) (rest k a b) in
            let ks = cases_eq k nk in
            let ps = cases_eq k pk in
            let links = ap (link_in h) {x = k} {y = nk} in
            let heaps = ap h {x = k} {y = pk} in
            grind arith

  -- a path that leads somewhere leads there in the grown table, too
  pub follow_grown : IsSound h root → (q : Path) (k : ℕ) → follow h root q ≡ Some k → follow h₁ root q ≡ Some k
  follow_grown s = snoc_ind (λ q. (k : ℕ) → follow h root q ≡ Some k → follow h₁ root q ≡ Some k) base step
    where
      base : (k : ℕ) → follow h root [] ≡ Some k → follow h₁ root [] ≡ Some k
      base k e = follow-nil h₁ root ∙ sym (follow-nil h root) ∙ e

      step : (q : Path) (n : Text) → ((k : ℕ) → follow h root q ≡ Some k → follow h₁ root q ≡ Some k) → (k : ℕ) → follow h root (q ++ n ∷ []) ≡ Some k → follow h₁ root (q ++ n ∷ []) ≡ Some k
      step q n ih k e =
          let l = last_step h root q n k e in
          let w = child_at l.parent n in
          let i = ih l.parent l.front in
          let t = then_child h₁ root q n l.parent in
          let c = l.child in
          grind arith

  -- a path to another key than the new one leads there in the table before, too
  pub follow-shrinks : (q : Path) (k : ℕ) → follow h₁ root q ≡ Some k → k ≢ nk → follow h root q ≡ Some k
  follow-shrinks = snoc_ind (λ q. (k : ℕ) → follow h₁ root q ≡ Some k → k ≢ nk → follow h root q ≡ Some k) base step
    where
      base : (k : ℕ) → follow h₁ root [] ≡ Some k → k ≢ nk → follow h root [] ≡ Some k
      base k e other = follow-nil h root ∙ sym (follow-nil h₁ root) ∙ e

      step : (q : Path) (n : Text) → ((k : ℕ) → follow h₁ root q ≡ Some k → k ≢ nk → follow h root q ≡ Some k) → (k : ℕ) → follow h₁ root (q ++ n ∷ []) ≡ Some k → k ≢ nk → follow h root (q ++ n ∷ []) ≡ Some k
      step q n ih k e other =
          let l = last_step h₁ root q n k e in
          let w = child_at l.parent n in
          let i = ih l.parent l.front in
          let t = then_child h root q n l.parent in
          let c = l.child in
          grind arith

-- the node has the same place and the same children
pub record SamePlace (old new : Node) : Type 0 where
  pub parent : new.parent ≡ old.parent
  pub name : new.name ≡ old.name
  pub level : new.level ≡ old.level
  pub children : new.children.entries ≡ old.children.entries
  pub safe : new.state.safe ≡ old.state.safe
  pub gone : new.gone ≡ old.gone

module _ (h h₁ : Heap) (k₀ : ℕ) (old new : Node) (is_old : h k₀ ≡ Some old) (is_new : h₁ k₀ ≡ Some new) (same : SamePlace old new)
    (rest : (k : ℕ) → k ≢ k₀ → h₁ k ≡ h k) where
  -- what depends on the place and the children alone is the same at each key
  pub at_each : {X : Type 0} (f : Option Node → X) → f (Some new) ≡ f (Some old) → (k : ℕ) → f (h₁ k) ≡ f (h k)
  at_each f e k = elim (cases_eq k k₀) [
    | inl is ↦ ap f (ap h₁ is ∙ is_new) ∙ e ∙ sym (ap f (ap h is ∙ is_old))
    | inr other ↦ ap f (rest k other)
  ]

  pub child-same : (k : ℕ) (n : Text) → child_in h₁ k n ≡ child_in h k n
  unfolding child_in
  child-same k n = at_each (option_and_then (λ node. get bytes_eq node.children n)) (ap (lookup (bytes_eq n)) same.children) k

  pub link-same : (k : ℕ) → link_in h₁ k ≡ link_in h k
  unfolding link_in
  link-same = at_each (option_map link_of) (λ i. Some (option_map (λ j. (j, same.name i)) (same.parent i)))

  pub level-same : (k : ℕ) → level_in h₁ k ≡ level_in h k
  unfolding level_in
  level-same = at_each (λ o. option_map_or (λ node. node.level) o 0) same.level

  safe-same : (k : ℕ) → safe_in h₁ k ≡ safe_in h k
  unfolding safe_in
  safe-same = at_each (λ o. option_map_or (λ node. node.state.safe) o false) same.safe

  children-same : (k : ℕ) → children_in h₁ k ≡ children_in h k
  unfolding children_in
  children-same = at_each (λ o. option_map_or (λ node. length (keys node.children)) o 0) (ap (λ es. length (keys_of es)) same.children)

  pub guarded-same : IsGuarded h → IsGuarded h₁
  guarded-same s = record {
    safe = λ k n c e f. safe-same c ∙ s.safe k n c (sym (child-same k n) ∙ e) (sym (safe-same k) ∙ f);
    few = λ k. let f = s.few k in let e = children-same k in omega arith;
  }

  pub sound-same : (root : ℕ) → IsSound h root → IsSound h₁ root
  sound-same root s = record {
    top = link-same root ∙ s.top;
    down = λ k n c e. link-same c ∙ s.down k n c (sym (child-same k n) ∙ e);
    alone = λ c e. s.alone c (sym (link-same c) ∙ e);
    levels = λ k n c e. level-same c ∙ s.levels k n c (sym (child-same k n) ∙ e) ∙ ap (λ l. l + 1) (sym (level-same k));
    fits = λ k. let f = s.fits k in let e = level-same k in omega arith;
  }

  pub follow-same : (q : Path) (k : ℕ) → follow h₁ k q ≡ follow h k q
  unfolding follow
  follow-same [] k = refl
  follow-same (n ∷ q) k = by (child_in h k n) (child-same k n) (follow-same q)
    where
      by : (o : Option ℕ) → child_in h₁ k n ≡ o → ((c : ℕ) → follow h₁ c q ≡ follow h c q)
          → option_and_then (λ c. follow h₁ c q) (child_in h₁ k n) ≡ option_and_then (λ c. follow h c q) o
      by None e ih = ap (option_and_then (λ c. follow h₁ c q)) e
      by (Some c) e ih = ap (option_and_then (λ c. follow h₁ c q)) e ∙ ih c

  pub tree-same : (root : ℕ) → IsSound h root → (p : Path) → follow h root p ≡ Some k₀
      → (q : Path) → tree_in h₁ root q ≡ with_node (tree_in h root) p (Some (view_of new)) q
  unfolding with_node
  tree-same root s p at q = by (follow h root q) refl
    where
      by : (o : Option ℕ) → follow h root q ≡ o → tree_in h₁ root q ≡ cond (path_eq q p) (Some (view_of new)) (tree_in h root q)
      by None e =
          let v = path_cases q p in
          let f = follow-same q root in
          let moved = ap (follow h root) {x = q} {y = p} in
          let t = tree-none h root q e in
          let t₁ = tree-none h₁ root q in
          grind arith
      by (Some k) e =
          let v = path_cases q p in
          let f = follow-same q root in
          let moved = ap (follow h root) {x = q} {y = p} in
          let one = one_path h root s q p k e in
          let t = tree-at h root q k e in
          let t₁ = tree-at h₁ root q k in
          let view = ap (option_map view_of) is_new in
          let rests : k ≢ k₀ → option_map view_of (h₁ k) ≡ option_map view_of (h k) = λ a. ap (option_map view_of) (rest k a) in
          let ps = cases_eq k k₀ in
          let heaps = ap h₁ {x = k} {y = k₀} in
          grind arith

-- what looks at places alone is the same in two tables of the same places
module _ (h h₁ : Heap) (same : (k : ℕ) → option_map place_of (h₁ k) ≡ option_map place_of (h k)) where
  place_child : (x : Heap) (k : ℕ) (n : Text) → child_in x k n ≡ option_and_then (λ place. lookup (bytes_eq n) place.3) (option_map place_of (x k))
  unfolding child_in
  place_child x k n = by (x k)
    where
      by : (o : Option Node) → option_and_then (λ node. get bytes_eq node.children n) o ≡ option_and_then (λ place. lookup (bytes_eq n) place.3) (option_map place_of o)
      by None = refl
      by (Some node) = refl

  place_link : (x : Heap) (k : ℕ) → link_in x k ≡ option_map (λ place. option_map (λ j. (j, place.1)) place.0) (option_map place_of (x k))
  unfolding link_in
  place_link x k = by (x k)
    where
      by : (o : Option Node) → option_map link_of o ≡ option_map (λ place. option_map (λ j. (j, place.1)) place.0) (option_map place_of o)
      by None = refl
      by (Some node) = refl

  place_level : (x : Heap) (k : ℕ) → level_in x k ≡ option_map_or (λ place. place.2) (option_map place_of (x k)) 0
  unfolding level_in
  place_level x k = by (x k)
    where
      by : (o : Option Node) → option_map_or (λ node. node.level) o 0 ≡ option_map_or (λ place. place.2) (option_map place_of o) 0
      by None = refl
      by (Some node) = refl

  place_safe : (x : Heap) (k : ℕ) → safe_in x k ≡ option_map_or (λ place. place.4) (option_map place_of (x k)) false
  unfolding safe_in
  place_safe x k = by (x k)
    where
      by : (o : Option Node) → option_map_or (λ node. node.state.safe) o false ≡ option_map_or (λ place. place.4) (option_map place_of o) false
      by None = refl
      by (Some node) = refl

  place_children : (x : Heap) (k : ℕ) → children_in x k ≡ option_map_or (λ place. length (keys_of place.3)) (option_map place_of (x k)) 0
  unfolding children_in
  place_children x k = by (x k)
    where
      by : (o : Option Node) → option_map_or (λ node. length (keys node.children)) o 0 ≡ option_map_or (λ place. length (keys_of place.3)) (option_map place_of o) 0
      by None = refl
      by (Some node) = refl

  pub child_placed : (k : ℕ) (n : Text) → child_in h₁ k n ≡ child_in h k n
  child_placed k n = place_child h₁ k n ∙ ap (option_and_then (λ place. lookup (bytes_eq n) place.3)) (same k) ∙ sym (place_child h k n)

  pub link_placed : (k : ℕ) → link_in h₁ k ≡ link_in h k
  link_placed k = place_link h₁ k ∙ ap (option_map (λ place. option_map (λ j. (j, place.1)) place.0)) (same k) ∙ sym (place_link h k)

  pub level_placed : (k : ℕ) → level_in h₁ k ≡ level_in h k
  level_placed k = place_level h₁ k ∙ ap (λ o. option_map_or (λ place. place.2) o 0) (same k) ∙ sym (place_level h k)

  safe_placed : (k : ℕ) → safe_in h₁ k ≡ safe_in h k
  safe_placed k = place_safe h₁ k ∙ ap (λ o. option_map_or (λ place. place.4) o false) (same k) ∙ sym (place_safe h k)

  children_placed : (k : ℕ) → children_in h₁ k ≡ children_in h k
  children_placed k = place_children h₁ k ∙ ap (λ o. option_map_or (λ place. length (keys_of place.3)) o 0) (same k) ∙ sym (place_children h k)

  pub guarded_placed : IsGuarded h → IsGuarded h₁
  guarded_placed s = record {
    safe = λ k n c e f. safe_placed c ∙ s.safe k n c (sym (child_placed k n) ∙ e) (sym (safe_placed k) ∙ f);
    few = λ k. let f = s.few k in let e = children_placed k in omega arith;
  }

  pub sound_placed : (root : ℕ) → IsSound h root → IsSound h₁ root
  sound_placed root s = record {
    top = link_placed root ∙ s.top;
    down = λ k n c e. link_placed c ∙ s.down k n c (sym (child_placed k n) ∙ e);
    alone = λ c e. s.alone c (sym (link_placed c) ∙ e);
    levels = λ k n c e. level_placed c ∙ s.levels k n c (sym (child_placed k n) ∙ e) ∙ ap (λ l. l + 1) (sym (level_placed k));
    fits = λ k. let f = s.fits k in let e = level_placed k in omega arith;
  }

-- names lead along children alone
pub follow_along : (h h₁ : Heap) → ((k : ℕ) (n : Text) → child_in h₁ k n ≡ child_in h k n) → (q : Path) (k : ℕ) → follow h₁ k q ≡ follow h k q
unfolding follow
follow_along h h₁ same [] k = refl
follow_along h h₁ same (n ∷ q) k = by (child_in h k n) (same k n) (follow_along h h₁ same q)
  where
    by : (o : Option ℕ) → child_in h₁ k n ≡ o → ((c : ℕ) → follow h₁ c q ≡ follow h c q)
        → option_and_then (λ c. follow h₁ c q) (child_in h₁ k n) ≡ option_and_then (λ c. follow h c q) o
    by None e ih = ap (option_and_then (λ c. follow h₁ c q)) e
    by (Some c) e ih = ap (option_and_then (λ c. follow h₁ c q)) e ∙ ih c

abbrev place_shape : Shape → Option ℕ × Text × ℕ × List (Text × ℕ) × Bool × Bool
place_shape shape = (shape.0, shape.1, shape.2, shape.3, shape.4.safe, shape.5)

-- what looks at shapes alone is the same in two tables of the same shapes
module _ (h h₁ : Heap) (same : (k : ℕ) → option_map shape_of (h₁ k) ≡ option_map shape_of (h k)) where
  shape_place : (x : Heap) (k : ℕ) → option_map place_of (x k) ≡ option_map place_shape (option_map shape_of (x k))
  shape_place x k = by (x k)
    where
      by : (o : Option Node) → option_map place_of o ≡ option_map place_shape (option_map shape_of o)
      by None = refl
      by (Some node) = refl

  shape_view : (x : Heap) (k : ℕ) → option_map view_of (x k) ≡ option_map view_shape (option_map shape_of (x k))
  shape_view x k = by (x k)
    where
      by : (o : Option Node) → option_map view_of o ≡ option_map view_shape (option_map shape_of o)
      by None = refl
      by (Some node) = refl

  pub places_kept : (k : ℕ) → option_map place_of (h₁ k) ≡ option_map place_of (h k)
  places_kept k = shape_place h₁ k ∙ ap (option_map place_shape) (same k) ∙ sym (shape_place h k)

  pub guarded_kept : IsGuarded h → IsGuarded h₁
  guarded_kept = guarded_placed h h₁ places_kept

  pub sound_kept : (root : ℕ) → IsSound h root → IsSound h₁ root
  sound_kept = sound_placed h h₁ places_kept

  pub follow_kept : (q : Path) (k : ℕ) → follow h₁ k q ≡ follow h k q
  follow_kept = follow_along h h₁ (child_placed h h₁ places_kept)

  pub tree_kept : (root : ℕ) (q : Path) → tree_in h₁ root q ≡ tree_in h root q
  unfolding tree_in
  tree_kept root q = by (follow h root q) (follow_kept q root)
    where
      by : (o : Option ℕ) → follow h₁ root q ≡ o → option_and_then (λ k. option_map view_of (h₁ k)) (follow h₁ root q) ≡ option_and_then (λ k. option_map view_of (h k)) o
      by None e = ap (option_and_then (λ k. option_map view_of (h₁ k))) e
      by (Some k) e = ap (option_and_then (λ k. option_map view_of (h₁ k))) e ∙ shape_view h₁ k ∙ ap (option_map view_shape) (same k) ∙ sym (shape_view h k)
