-- Lemmas on interpreters by their keys, in the tree or gone.
use Rattle.std.proofs.Common.{◌≡◌, ℕ, zero, suc, ◌≤◌, Bool, true, false, [], ◌∷◌, ◌++◌, refl, sym, ◌∙◌, ap, subst, inl, inr, arith, append-nil, append_assoc, Option, Some, None}
use Rattle.std.specs.Prelude.{◌≢◌, ◌⊎◌, is_some}
use Rattle.std.specs.Option.{option_map}
use Rattle.std.proofs.lemmas.Bool.{cases_eq}
use Rattle.std.proofs.lemmas.Option.{same_Some}
use Rattle.tcl_core.specs.Trees.{depth_of}
use Rattle.tcl_interpreter.specs.Paths.{Text, Path, is_above}
use Rattle.tcl_interpreter.specs.declared.node.Node.{Node}
use Rattle.tcl_interpreter.proofs.PathLemmas.{snoc_ind, ends_cases, above_cases, above_self, above_append}
use Rattle.tcl_tree.specs.Nodes.{Heap, view_of, link_of, child_in, follow, tree_in, link_in, level_in, IsSound}
use Rattle.tcl_tree.specs.Held.{Held, Keys, held_by, held_in, above_at, depth_at, gone_at, Over, IsOrdered}
use Rattle.tcl_tree.specs.Held.Over.{here, up}
use Rattle.tcl_tree.proofs.HeapLemmas.{follow-nil, last_step, then_child, same_link, linked, tree-at}

-- ## What there is at a key, in other words

pub held-at : (h : Heap) (k : ℕ) (node : Node) → h k ≡ Some node → held_in h k ≡ Some (held_by node)
unfolding held_in
held-at h k node e = ap (option_map held_by) e

pub held-none : (h : Heap) (k : ℕ) → h k ≡ None → held_in h k ≡ None
unfolding held_in
held-none h k e = ap (option_map held_by) e

pub held-eq : (h h₁ : Heap) (k : ℕ) → h₁ k ≡ h k → held_in h₁ k ≡ held_in h k
unfolding held_in
held-eq h h₁ k e = ap (option_map held_by) e

pub held-some : (h : Heap) (k : ℕ) → is_some (held_in h k) ≡ is_some (h k)
unfolding held_in
held-some h k = by (h k)
  where
    by : (o : Option Node) → is_some (option_map held_by o) ≡ is_some o
    by None = refl
    by (Some node) = refl

pub link-above : (h : Heap) (k j : ℕ) (n : Text) → link_in h k ≡ Some (Some (j, n)) → above_at (held_in h k) ≡ Some (j, n)
unfolding link_in held_in
link-above h k j n e = by (h k) e
  where
    by : (o : Option Node) → option_map link_of o ≡ Some (Some (j, n)) → above_at (option_map held_by o) ≡ Some (j, n)
    by None e = let x : ◌≡◌ {A = Option (Option (ℕ × Text))} None (Some (Some (j, n))) = e in cc
    by (Some node) e = same_Some _ _ e

pub above-link : (h : Heap) (k j : ℕ) (n : Text) → above_at (held_in h k) ≡ Some (j, n) → link_in h k ≡ Some (Some (j, n))
unfolding link_in held_in
above-link h k j n e = by (h k) e
  where
    by : (o : Option Node) → above_at (option_map held_by o) ≡ Some (j, n) → option_map link_of o ≡ Some (Some (j, n))
    by None e = let x : ◌≡◌ {A = Option (ℕ × Text)} None (Some (j, n)) = e in cc
    by (Some node) e = ap Some e

pub root-above : (h : Heap) (k : ℕ) → link_in h k ≡ Some None → above_at (held_in h k) ≡ None
unfolding link_in held_in
root-above h k e = by (h k) e
  where
    by : (o : Option Node) → option_map link_of o ≡ Some None → above_at (option_map held_by o) ≡ None
    by None e = refl
    by (Some node) e = same_Some _ _ e

pub none_link : (h : Heap) (k : ℕ) → held_in h k ≡ None → link_in h k ≡ None
unfolding link_in held_in
none_link h k e = by (h k) e
  where
    by : (o : Option Node) → option_map held_by o ≡ None → option_map link_of o ≡ None
    by None e = refl
    by (Some node) e = let x : ◌≡◌ {A = Option Held} (Some (held_by node)) None = e in cc

-- none above one that is there: the root
pub above-root : (h : Heap) (k : ℕ) → is_some (held_in h k) ≡ true → above_at (held_in h k) ≡ None → link_in h k ≡ Some None
unfolding link_in held_in
above-root h k there e = by (h k) there e
  where
    by : (o : Option Node) → is_some (option_map held_by o) ≡ true → above_at (option_map held_by o) ≡ None → option_map link_of o ≡ Some None
    by None t e = let x : false ≡ true = t in cc
    by (Some node) t e = ap Some e

pub same_above : (a b : ℕ) (n m : Text) → ◌≡◌ {A = Option (ℕ × Text)} (Some (a, n)) (Some (b, m)) → (a ≡ b) × (n ≡ m)
same_above a b n m e = same_link a b n m (ap Some e)

pub no_above : {X : Type 0} (x : ℕ × Text) (o : Option (ℕ × Text)) → o ≡ Some x → o ≡ None → X
no_above x o e f = absurd (by (sym f ∙ e))
  where
    by : ◌≡◌ {A = Option (ℕ × Text)} None (Some x) → Prim.⊥
    by e = cc

pub not_gone : {X : Type 0} (b : Bool) → b ≡ true → b ≡ false → X
not_gone b e f = absurd (by (sym e ∙ f))
  where
    by : true ≡ false → Prim.⊥
    by e = cc

-- one of which something is said is there
pub gone-there : (o : Option Held) → gone_at o ≡ true → is_some o ≡ true
gone-there None e = e
gone-there (Some x) e = refl

pub above-there : (o : Option Held) (x : ℕ × Text) → above_at o ≡ Some x → is_some o ≡ true
above-there None x e = no_above x None e refl
above-there (Some y) x e = refl

pub above_longer : (q p : Path) (n : Text) → is_above q p ≡ true → is_above q (p ++ n ∷ []) ≡ true
above_longer q p n above = elim (above_cases q p) [
  | inl r ↦ ap (λ x. is_above q (x ++ n ∷ [])) r.1 ∙ ap (is_above q) (append_assoc q r.0 (n ∷ [])) ∙ above_append q (r.0 ++ n ∷ [])
  | inr f ↦ not_gone (is_above q p) above f
]

-- ## The tree and the keys

module _ (h : Heap) (root : ℕ) (s : IsSound h root) (o : IsOrdered h root) where
  -- names lead to those that stand
  pub follow_stands : (q : Path) (k : ℕ) → follow h root q ≡ Some k → gone_at (held_in h k) ≡ false
  follow_stands q k e = elim (ends_cases q) [
    | inl none ↦ ap (λ j. gone_at (held_in h j)) (same_Some _ _ (sym e ∙ ap (follow h root) none ∙ follow-nil h root)) ∙ o.root_stands
    | inr w ↦ let l = last_step h root w.front w.last k (ap (follow h root) (sym w.is) ∙ e) in o.stands l.parent w.last k l.child
  ]

  pub follow_there : (q : Path) (k : ℕ) → follow h root q ≡ Some k → is_some (held_in h k) ≡ true
  follow_there q k e = by (held_in h k) refl
    where
      by : (x : Option Held) → held_in h k ≡ x → is_some x ≡ true
      by (Some x) f = refl
      by None f = absurd (linked h root s q k e (none_link h k f))

  parent_stands : (k j : ℕ) (n : Text) → child_in h j n ≡ Some k → gone_at (held_in h j) ≡ false
  parent_stands k j n c = cases (gone_at (held_in h j)) refl
    where
      cases : (b : Bool) → gone_at (held_in h j) ≡ b → b ≡ false
      cases false e = refl
      cases true e = let x : ◌≡◌ {A = Option ℕ} None (Some k) = sym (o.bare j n e) ∙ c in cc

  -- to each that stands some names lead
  path_step : (k : ℕ) → is_some (held_in h k) ≡ true → gone_at (held_in h k) ≡ false → (a : Option (ℕ × Text)) → above_at (held_in h k) ≡ a
      → ((j : ℕ) (n : Text) → above_at (held_in h k) ≡ Some (j, n) → is_some (held_in h j) ≡ true → gone_at (held_in h j) ≡ false → (q : Path) × (follow h root q ≡ Some j))
      → (q : Path) × (follow h root q ≡ Some k)
  path_step k there stands None e ih = ([], follow-nil h root ∙ ap Some (sym (s.alone k (above-root h k there e))))
  path_step k there stands (Some a) e ih =
      let c = o.child k a.0 a.1 stands e in
      let p = ih a.0 a.1 e (o.there k a.0 a.1 e) (parent_stands k a.0 a.1 c) in
      (p.0 ++ a.1 ∷ [], then_child h root p.0 a.1 a.0 p.1 ∙ c)

  path_within : (m k : ℕ) → level_in h k ≡ m → is_some (held_in h k) ≡ true → gone_at (held_in h k) ≡ false → (q : Path) × (follow h root q ≡ Some k)
  path_within zero k l there stands = path_step k there stands (above_at (held_in h k)) refl (λ j n e t st. let f = o.levels k j n e in absurd (omega arith))
  path_within (suc m) k l there stands = path_step k there stands (above_at (held_in h k)) refl (λ j n e t st. path_within m j (let f = o.levels k j n e in omega arith) t st)

  pub stands_path : (k : ℕ) → is_some (held_in h k) ≡ true → gone_at (held_in h k) ≡ false → (q : Path) × (follow h root q ≡ Some k)
  stands_path k there stands = path_within (level_in h k) k refl there stands

  -- how deep one is that stands, by its path
  pub depth_tree : (q : Path) (k : ℕ) → follow h root q ≡ Some k → depth_of (tree_in h root q) ≡ depth_at (held_in h k)
  unfolding held_in
  depth_tree q k e = ap depth_of (tree-at h root q k e) ∙ by (h k)
    where
      by : (x : Option Node) → depth_of (option_map view_of x) ≡ depth_at (option_map held_by x)
      by None = refl
      by (Some node) = refl

  -- the one above one that is at a path is at the path above
  pub above_path : (p : Path) (k j : ℕ) (n : Text) → follow h root p ≡ Some k → above_at (held_in h k) ≡ Some (j, n) → (q : Path) × (p ≡ q ++ n ∷ []) × (follow h root q ≡ Some j)
  above_path p k j n at e = elim (ends_cases p) [
    | inl none ↦
        let is = same_Some _ _ (sym at ∙ ap (follow h root) none ∙ follow-nil h root) in
        no_above (j, n) (above_at (held_in h root)) (ap (λ i. above_at (held_in h i)) (sym is) ∙ e) (root-above h root s.top)
    | inr w ↦
        let l = last_step h root w.front w.last k (ap (follow h root) (sym w.is) ∙ at) in
        let same = same_above l.parent j w.last n (sym (link-above h k l.parent w.last (s.down l.parent w.last k l.child)) ∙ e) in
        (w.front, w.is ∙ ap (λ m. w.front ++ m ∷ []) same.1, l.front ∙ ap Some same.0)
  ]

-- ## The way up

-- what is over one is the same or is over the one above
pub over_next : (H : Keys) (a key j : ℕ) (n : Text) → key ≢ a → above_at (H key) ≡ Some (j, n) → Over H a key → Over H a j
over_next H a key j n other e here = absurd (other refl)
over_next H a key j n other e (up {j = i} m f w) = subst (λ x. Over H a x) (same_above i j m n (sym f ∙ e)).0 w

over_none : (H : Keys) (a key : ℕ) → key ≢ a → above_at (H key) ≡ None → Over H a key → Prim.⊥
over_none H a key other e here = other refl
over_none H a key other e (up {j = i} m f w) = no_above (i, m) (above_at (H key)) f e

-- the one above one that is over is over, too
pub over_more : (H : Keys) (c k key : ℕ) (n : Text) → above_at (H c) ≡ Some (k, n) → Over H c key → Over H k key
over_more H c k key n e here = up n e here
over_more H c k key n e (up {j = i} m f w) = up m f (over_more H c k i n e w)

-- The keys alone say what is above what, so where they do so alike the same is over the same.
pub over_same : (H H₁ : Keys) → ((k : ℕ) → above_at (H₁ k) ≡ above_at (H k)) → (a key : ℕ) → Over H a key → Over H₁ a key
over_same H H₁ same a key here = here
over_same H H₁ same a key (up {j = i} m f w) = up m (same key ∙ f) (over_same H H₁ same a i w)

module _ (h : Heap) (root : ℕ) (o : IsOrdered h root) where
  over_step : (a key : ℕ) → key ≢ a → (x : Option (ℕ × Text)) → above_at (held_in h key) ≡ x
      → ((j : ℕ) (n : Text) → above_at (held_in h key) ≡ Some (j, n) → Over (held_in h) a j ⊎ (Over (held_in h) a j → Prim.⊥))
      → Over (held_in h) a key ⊎ (Over (held_in h) a key → Prim.⊥)
  over_step a key other None e ih = inr (over_none (held_in h) a key other e)
  over_step a key other (Some x) e ih = elim (ih x.0 x.1 e) [
    | inl w ↦ inl (up x.1 e w)
    | inr n ↦ inr (λ w. n (over_next (held_in h) a key x.0 x.1 other e w))
  ]

  over_within : (m a key : ℕ) → level_in h key ≡ m → Over (held_in h) a key ⊎ (Over (held_in h) a key → Prim.⊥)
  over_within zero a key l = elim (cases_eq key a) [
    | inl same ↦ inl (subst (λ j. Over (held_in h) a j) (sym same) here)
    | inr other ↦ over_step a key other (above_at (held_in h key)) refl (λ j n e. let f = o.levels key j n e in absurd (omega arith))
  ]
  over_within (suc m) a key l = elim (cases_eq key a) [
    | inl same ↦ inl (subst (λ j. Over (held_in h) a j) (sym same) here)
    | inr other ↦ over_step a key other (above_at (held_in h key)) refl (λ j n e. over_within m a j (let f = o.levels key j n e in omega arith))
  ]

  -- a key is over another, or it isn't
  pub over_cases : (a key : ℕ) → Over (held_in h) a key ⊎ (Over (held_in h) a key → Prim.⊥)
  over_cases a key = over_within (level_in h key) a key refl

  -- what is over another isn't below it
  pub over_level : (a key : ℕ) → Over (held_in h) a key → level_in h a ≤ level_in h key
  over_level a key here = omega arith
  over_level a key (up {j = j} n e w) = let f = o.levels key j n e in let g = over_level a j w in omega arith

  -- none is over the one above it
  pub not_over_above : (key j : ℕ) (n : Text) → above_at (held_in h key) ≡ Some (j, n) → Over (held_in h) key j → Prim.⊥
  not_over_above key j n e w = let f = o.levels key j n e in let g = over_level key j w in absurd (omega arith)

  module _ (s : IsSound h root) where
    -- what is over one in the tree are those at the paths above
    pub over_path : (a : ℕ) (p : Path) (key : ℕ) → follow h root p ≡ Some key → Over (held_in h) a key → (q : Path) × (is_above q p ≡ true) × (follow h root q ≡ Some a)
    over_path a p key at here = (p, above_self p, at)
    over_path a p key at (up {j = j} n e w) =
        let b = above_path h root s o p key j n at e in
        let r = over_path a b.0 j b.2 w in
        (r.0, ap (is_above r.0) b.1 ∙ above_longer r.0 b.0 n r.1, r.2)

    pub path_over : (p q : Path) (a key : ℕ) → follow h root p ≡ Some key → is_above q p ≡ true → follow h root q ≡ Some a → Over (held_in h) a key
    path_over p q a key at above here_at = elim (above_cases q p) [
      | inl r ↦ rest r.0 p key r.1 at
      | inr f ↦ not_gone (is_above q p) above f
    ]
      where
        rest : (r p : Path) (key : ℕ) → p ≡ q ++ r → follow h root p ≡ Some key → Over (held_in h) a key
        rest = snoc_ind (λ r. (p : Path) (key : ℕ) → p ≡ q ++ r → follow h root p ≡ Some key → Over (held_in h) a key)
            (λ p key e f. subst (λ k. Over (held_in h) a k) (same_Some _ _ (sym here_at ∙ ap (follow h root) (sym (append-nil q) ∙ sym e) ∙ f)) here)
            (λ r n ih p key e f.
            let whole : p ≡ (q ++ r) ++ n ∷ [] = e ∙ sym (append_assoc q r (n ∷ [])) in
            let l = last_step h root (q ++ r) n key (ap (follow h root) (sym whole) ∙ f) in
            up n (link-above h key l.parent n (s.down l.parent n key l.child)) (ih (q ++ r) l.parent refl l.front))
