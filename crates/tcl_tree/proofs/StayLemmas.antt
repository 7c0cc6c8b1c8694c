-- Lemmas on who stays in use, through evaluations that begin and end.
use Rattle.std.proofs.Common.{◌≡◌, ℕ, zero, suc, pred, ◌<◌, ◌≤◌, Bool, true, false, ◌&&◌, [], ◌∷◌, ◌++◌, length, refl, sym, ◌∙◌, ap, subst, inl, inr, arith, Option, Some, None}
use Rattle.std.specs.Prelude.{◌⊎◌, is_some, nat_le}
use Rattle.std.specs.Option.{option_map}
use Rattle.std.proofs.lemmas.Bool.Decides.{nat_tests}
use Rattle.slab.specs.Slab.{get}
use Rattle.tcl_interpreter.specs.Paths.{Text, Path}
use Rattle.tcl_tree.specs.Held.{Held, Keys, above_at, depth_at, gone_at, Over, IsInnermost, Deepens, deeper, Shallows, shallower, left_by, Gains, Stays}
use Rattle.tcl_tree.specs.Held.Over.{here, up}
use Rattle.std.proofs.Common.{append-nil, append_assoc, length-append}
use Rattle.std.proofs.lemmas.Option.{same_Some}
use Rattle.tcl_core.specs.Trees.{depth_of}
use Rattle.tcl_interpreter.proofs.PathLemmas.{snoc_ind}
use Rattle.tcl_tree.specs.Held.{StoodAt, HighestGone}
use Rattle.tcl_tree.specs.Held.HighestGone.{itself, further}
use Rattle.tcl_tree.specs.Gone.{held_of, depth_in, Holds, IsGone}
use Rattle.tcl_tree.specs.TreeOf.{tree_of, key_of, Names}
use Rattle.tcl_tree.specs.declared.tree.Tree.{Tree}
use Rattle.tcl_tree.specs.declared.tree.Place.{Place}
use Rattle.tcl_tree.proofs.HeapLemmas.{last_step}
use Rattle.tcl_tree.proofs.CoreLemmas.{tree_gone}
use Rattle.tcl_tree.proofs.GoneLemmas.{highest_gone}
use Rattle.tcl_tree.proofs.WayLemmas.{above_stands, deep_there, follow_stood, highest_bound, some_highest, stood_along, stood_follow}
use Rattle.tcl_tree.proofs.DeletionLemmas.{idle_there}
use Rattle.tcl_tree.proofs.HeldLemmas.{depth_tree, follow_stands, follow_there, link-above, same_above, not_gone, over_cases, over_more, over_path, over_same}

pub stays_same : (H H₁ : Keys) → ((k : ℕ) → H₁ k ≡ H k) → Stays H H₁
stays_same H H₁ same = record {
  above = λ k l. ap above_at (same k);
  depth = λ k. ap depth_at (same k);
  gone = λ k g. ap gone_at (same k) ∙ g;
}

pub stays_then : (H H₁ H₂ : Keys) → Stays H H₁ → Stays H₁ H₂ → Stays H H₂
stays_then H H₁ H₂ a b = record {
  above = λ k l. b.above k (let x = a.depth k in omega arith) ∙ a.above k l;
  depth = λ k. b.depth k ∙ a.depth k;
  gone = λ k g. b.gone k (a.gone k g);
}

-- a new interpreter
pub stays_gains : (H H₁ : Keys) → Gains H H₁ → Stays H H₁
stays_gains H H₁ g = record {
  above = λ k l. by k (H k) refl l;
  depth = λ k. deep k (H k) refl;
  gone = λ k e. still k (H k) refl e;
}
  where
    by : (k : ℕ) (x : Option Held) → H k ≡ x → 1 ≤ depth_at (H k) → above_at (H₁ k) ≡ above_at (H k)
    by k (Some x) e l = ap above_at (g.kept k x e) ∙ sym (ap above_at e)
    by k None e l = let z = ap depth_at e in absurd (omega arith)

    deep : (k : ℕ) (x : Option Held) → H k ≡ x → depth_at (H₁ k) ≡ depth_at (H k)
    deep k (Some x) e = ap depth_at (g.kept k x e) ∙ sym (ap depth_at e)
    deep k None e = (g.idle k e).0 ∙ sym (ap depth_at e)

    still : (k : ℕ) (x : Option Held) → H k ≡ x → gone_at (H k) ≡ true → gone_at (H₁ k) ≡ true
    still k (Some x) e f = ap gone_at (g.kept k x e) ∙ sym (ap gone_at e) ∙ f
    still k None e f = not_gone (gone_at (H k)) f (ap gone_at e)

-- ## An evaluation within one that began

-- order among keys
abbrev pub InOrder : Keys → Type 0
InOrder H = (c k : ℕ) (n : Text) → above_at (H c) ≡ Some (k, n) → depth_at (H c) ≤ depth_at (H k)

over_deep : (H : Keys) → InOrder H → (a key : ℕ) → Over H a key → depth_at (H key) ≤ depth_at (H a)
over_deep H o a key here = omega arith
over_deep H o a key (up {j = j} n e w) = let x = o key j n e in let y = over_deep H o a j w in omega arith

-- what is over one that is in use stays so
over_on : (H H₁ : Keys) → InOrder H → Stays H H₁ → (a key : ℕ) → 1 ≤ depth_at (H key) → Over H a key → Over H₁ a key
over_on H H₁ o s a key l here = here
over_on H H₁ o s a key l (up {j = j} n e w) = let x = o key j n e in up n (s.above key l ∙ e) (over_on H H₁ o s a j (omega arith) w)

over_back : (H H₁ : Keys) → InOrder H → Stays H H₁ → (a key : ℕ) → 1 ≤ depth_at (H key) → Over H₁ a key → Over H a key
over_back H H₁ o s a key l here = here
over_back H H₁ o s a key l (up {j = j} n e w) =
    let f = sym (s.above key l) ∙ e in
    let x = o key j n f in
    up n f (over_back H H₁ o s a j (omega arith) w)

deeper_at : (x : Option Held) → is_some x ≡ true → (above_at (option_map deeper x) ≡ above_at x) × (depth_at (option_map deeper x) ≡ suc (depth_at x)) × (gone_at (option_map deeper x) ≡ gone_at x)
deeper_at None t = let z : false ≡ true = t in cc
deeper_at (Some x) t = (refl, refl, refl)

shallower_at : (x : Option Held) → 2 ≤ depth_at x → (above_at (shallower x) ≡ above_at x) × (gone_at (shallower x) ≡ gone_at x)
shallower_at None l = absurd (omega arith)
shallower_at (Some x) l = by (nat_le x.depth 1) (deep x.depth l) x.gone
  where
    deep : (d : ℕ) → 2 ≤ d → nat_le d 1 ≡ false
    deep d l = grind (arith, nat_tests)

    by : (b : Bool) → b ≡ false → (g : Bool) → (above_at (left_by (g && b) x) ≡ x.above) × (gone_at (left_by (g && b) x) ≡ x.gone)
    by false e true = (refl, refl)
    by false e false = (refl, refl)
    by true e g = let z : true ≡ false = e in cc

shallower_depth : (x : Option Held) → depth_at (shallower x) ≡ pred (depth_at x)
shallower_depth None = refl
shallower_depth (Some x) = by (x.gone && nat_le x.depth 1) (low x.gone)
  where
    low : (g : Bool) → (g && nat_le x.depth 1) ≡ true → x.depth ≤ 1
    low true e = grind (arith, nat_tests)
    low false e = let z : false ≡ true = e in cc

    none : (d : ℕ) → d ≤ 1 → 0 ≡ pred d
    none zero l = refl
    none (suc d) l = omega arith

    by : (b : Bool) → (b ≡ true → x.depth ≤ 1) → depth_at (left_by b x) ≡ pred x.depth
    by true l = none x.depth (l refl)
    by false l = refl

-- An evaluation begins at a key, and others go on until control comes back to it.
module _ (H H₁ H₂ : Keys) (order : InOrder H) (key : ℕ) (there : (a : ℕ) → Over H a key → is_some (H a) ≡ true) (over : (a : ℕ) → Over H a key ⊎ (Over H a key → Prim.⊥))
    (deep : Deepens H key H₁) (stays : Stays H₁ H₂) where
  above_deep : (k : ℕ) → above_at (H₁ k) ≡ above_at (H k)
  above_deep k = elim (over k) [
    | inl w ↦ ap above_at (deep.over k w) ∙ (deeper_at (H k) (there k w)).0
    | inr n ↦ ap above_at (deep.others k n)
  ]

  depth_over : (a : ℕ) → Over H a key → depth_at (H₁ a) ≡ suc (depth_at (H a))
  depth_over a w = ap depth_at (deep.over a w) ∙ (deeper_at (H a) (there a w)).1

  order_deep : InOrder H₁
  order_deep c k n e =
      let f = sym (above_deep c) ∙ e in
      let z = order c k n f in
      elim (over c) [
        | inl w ↦ let x = depth_over c w in let y = depth_over k (more c w f) in omega arith
        | inr a ↦
            let x = ap depth_at (deep.others c a) in
            elim (over k) [
              | inl v ↦ let y = depth_over k v in omega arith
              | inr b ↦ let y = ap depth_at (deep.others k b) in omega arith
            ]
      ]
    where
      more : (c : ℕ) → Over H c key → above_at (H c) ≡ Some (k, n) → Over H k key
      more c w f = over_more H c k key n f w

  began : 1 ≤ depth_at (H₁ key)
  began = let x = depth_over key here in omega arith

  over_deepened : (a : ℕ) → Over H a key → Over H₂ a key
  over_deepened a w = over_on H₁ H₂ order_deep stays a key began (over_same H H₁ above_deep a key w)

  over_before : (a : ℕ) → Over H₂ a key → Over H a key
  over_before a w = over_same H₁ H (λ k. sym (above_deep k)) a key (over_back H₁ H₂ order_deep stays a key began w)

  -- it is the last one that began there
  pub stays_innermost : IsInnermost H₂ key
  stays_innermost c k n e w apart =
      let v = over_before k w in
      let y = depth_over k v in
      let z = stays.depth k in
      let x = stays.depth c in
      by (depth_at (H₁ c)) refl
    where
      by : (d : ℕ) → depth_at (H₁ c) ≡ d → depth_at (H₂ c) < depth_at (H₂ k)
      by zero f =
          let y = depth_over k (over_before k w) in
          let z = stays.depth k in
          let x = stays.depth c in
          omega arith
      by (suc d) f =
          let y = depth_over k (over_before k w) in
          let z = stays.depth k in
          let x = stays.depth c in
          let was = ap depth_at (deep.others c (λ t. apart (over_deepened c t))) in
          let f₁ : above_at (H c) ≡ Some (k, n) = sym (above_deep c) ∙ sym (stays.above c (omega arith)) ∙ e in
          let o = order c k n f₁ in
          omega arith

  -- where it ends who was in use is so as before
  pub stays_around : ((k : ℕ) → gone_at (H k) ≡ true → 1 ≤ depth_at (H k)) → (H₃ : Keys) → Shallows H₂ key H₃ → Stays H H₃
  stays_around used H₃ shallow = record {
    above = λ k l. elim (over k) [
      | inl w ↦
          let d = depth_over k w in
          let z = stays.depth k in
          let v = over_deepened k w in
          ap above_at (shallow.over k v) ∙ (shallower_at (H₂ k) (omega arith)).0 ∙ stays.above k (omega arith) ∙ above_deep k
      | inr n ↦
          let d = ap depth_at (deep.others k n) in
          ap above_at (shallow.others k (λ v. n (over_before k v))) ∙ stays.above k (omega arith) ∙ above_deep k
    ];
    depth = λ k. elim (over k) [
      | inl w ↦
          ap depth_at (shallow.over k (over_deepened k w)) ∙ shallower_depth (H₂ k) ∙ ap (λ n. pred n) (stays.depth k ∙ depth_over k w)
      | inr n ↦
          ap depth_at (shallow.others k (λ v. n (over_before k v))) ∙ stays.depth k ∙ ap depth_at (deep.others k n)
    ];
    gone = λ k g. elim (over k) [
      | inl w ↦
          let d = depth_over k w in
          let z = stays.depth k in
          let u = used k g in
          ap gone_at (shallow.over k (over_deepened k w)) ∙ (shallower_at (H₂ k) (omega arith)).1 ∙ stays.gone k (ap gone_at (deep.over k w) ∙ (deeper_at (H k) (there k w)).2 ∙ g)
      | inr n ↦ ap gone_at (shallow.others k (λ v. n (over_before k v))) ∙ stays.gone k (ap gone_at (deep.others k n) ∙ g)
    ];
  }

-- ## Who is in use is held, in the tree or gone

-- how many are gone from a key upward, without a break
abbrev Status : Keys → ℕ → ℕ → Type 0
Status H key n = ((gone_at (H key) ≡ false) × (n ≡ 0)) ⊎ ((m : ℕ) × HighestGone H key m × (n ≡ suc m))

module _ (t u : Tree) (stays : Stays (held_of t) (held_of u)) where
  deep_some : (k : ℕ) → 1 ≤ depth_at (held_of t k) → is_some (held_of u k) ≡ true
  deep_some k l = let x = stays.depth k in deep_there (held_of u k) 1 (omega arith) (omega arith)

  stood_on : (x : Path) (k : ℕ) → key_of t x ≡ Some k → 1 ≤ depth_at (held_of t k) → StoodAt (held_of u) k x
  stood_on x k e l = stood_along (held_of t) (held_of u) k x
      (λ a w.
      let d = over_deep (held_of t) t.ordered.depths a k w in
      (stays.above a (omega arith), λ s. deep_some a (omega arith)))
      (follow_stood (get t.nodes) t.root t.sound t.ordered x k e)

  -- who stands with someone in progress stood there before
  pub stood_before : (x : Path) (k : ℕ) → key_of u x ≡ Some k → 1 ≤ depth_at (held_of u k) → key_of t x ≡ Some k
  stood_before x k e l =
      let stood = stood_along (held_of u) (held_of t) k x
      (λ a w.
      let d = over_deep (held_of u) u.ordered.depths a k w in
      let z = stays.depth a in
      (sym (stays.above a (omega arith)), λ s. deep_there (held_of t a) 1 (omega arith) (omega arith)))
      (follow_stood (get u.nodes) u.root u.sound u.ordered x k e) in
      stood_follow (get t.nodes) t.root t.sound t.ordered x k stood (by (gone_at (held_of t k)) refl)
    where
      by : (b : Bool) → gone_at (held_of t k) ≡ b → gone_at (held_of t k) ≡ false
      by false f = f
      by true f = not_gone (gone_at (held_of u k)) (stays.gone k f) (follow_stands (get u.nodes) u.root u.sound u.ordered x k e)

  -- Who stood above one, and whether it is gone: so many levels up it is, and further up it isn't.
  pub record Above (x : Path) (m n : ℕ) : Type 0 where
    pub key : ℕ
    pub at : key_of t x ≡ Some key
    pub deep : 1 ≤ depth_at (held_of t key)
    pub gone : m < n → gone_at (held_of u key) ≡ true
    pub stands : n ≤ m → gone_at (held_of u key) ≡ false

  above_gone : (z x p : Path) (key : ℕ) → key_of t p ≡ Some key → 1 ≤ depth_at (held_of t key) → (n : ℕ) → Status (held_of u) key n → p ≡ x ++ z → Above x (length z) n
  above_gone = snoc_ind (λ z. (x p : Path) (key : ℕ) → key_of t p ≡ Some key → 1 ≤ depth_at (held_of t key) → (n : ℕ) → Status (held_of u) key n → p ≡ x ++ z → Above x (length z) n)
      (λ x p key e l n w is. record {
        key = key;
        at = ap (key_of t) (sym (is ∙ append-nil x)) ∙ e;
        deep = l;
        gone = λ lt. elim w [
          | inl v ↦ let z = v.1 in absurd (omega arith)
          | inr v ↦ highest_gone (held_of u) key v.0 v.1
        ];
        stands = λ le. elim w [
          | inl v ↦ v.0
          | inr v ↦ let z = v.2 in absurd (omega arith)
        ];
      })
      (λ z m ih x p key e l n w is.
      let whole : p ≡ (x ++ z) ++ m ∷ [] = is ∙ sym (append_assoc x z (m ∷ [])) in
      let s = last_step (get t.nodes) t.root (x ++ z) m key (ap (key_of t) (sym whole) ∙ e) in
      let above = link-above (get t.nodes) key s.parent m (t.sound.down s.parent m key s.child) in
      let d = t.ordered.depths key s.parent m above in
      let now = stays.above key l ∙ above in
      let longer : length (z ++ m ∷ []) ≡ suc (length z) = let y = length-append z (m ∷ []) in omega (arith, y) in
      let r = ih x (x ++ z) s.parent s.front (omega arith) (pred n) (parent key s.parent m n now w) refl in
      record {
        key = r.key;
        at = r.at;
        deep = r.deep;
        gone = λ lt. r.gone (less (length z) n (omega arith));
        stands = λ le. r.stands (most (length z) n (omega arith));
      })
    where
      less : (m n : ℕ) → suc m < n → m < pred n
      less m zero l = absurd (omega arith)
      less m (suc n) l = omega arith

      most : (m n : ℕ) → n ≤ suc m → pred n ≤ m
      most m zero l = omega arith
      most m (suc n) l = omega arith

      parent : (key j : ℕ) (m : Text) (n : ℕ) → above_at (held_of u key) ≡ Some (j, m) → Status (held_of u) key n → Status (held_of u) j (pred n)
      parent key j m n e (inl v) = inl (above_stands (get u.nodes) u.root u.ordered key j m v.0 e, ap (λ i. pred i) v.1)
      parent key j m n e (inr v) = by v.0 v.1 v.2
        where
          by : (i : ℕ) → HighestGone (held_of u) key i → n ≡ suc i → Status (held_of u) j (pred n)
          by i (itself {j = k} y g a f) is = let same = same_above k j y m (sym a ∙ e) in inl (ap (λ x. gone_at (held_of u x)) (sym same.0) ∙ f, ap (λ x. pred x) is)
          by i (further {j = k} {m = l} y g a r) is = let same = same_above k j y m (sym a ∙ e) in inr (l, subst (λ x. HighestGone (held_of u) x l) same.0 r, ap (λ x. pred x) is)

  module _ (place : Place) (p : Path) (named : Names t place p) (deep : 1 ≤ depth_in t place) where
    gone_there : (n : ℕ) → HighestGone (held_of u) place.key n → IsGone u place p n
    gone_there n h = record {
      stood = stood_on p place.key named deep;
      highest = h;
      idle = idle_there p (tree_of u) n (highest_bound (held_of u) place.key n p h (stood_on p place.key named deep))
          (λ x z e l. low x (above_gone z x p place.key named deep (suc n) (inr (n, h, refl)) e) (omega arith))
          (λ x z e l. high x (above_gone z x p place.key named deep (suc n) (inr (n, h, refl)) e) (omega arith));
    }
      where
        low : {m : ℕ} (x : Path) → Above x m (suc n) → m < suc n → depth_of (tree_of u x) ≡ 0
        low x a l = by (key_of u x) refl
          where
            by : (o : Option ℕ) → key_of u x ≡ o → depth_of (tree_of u x) ≡ 0
            by None e = ap depth_of (tree_gone u x e)
            by (Some b) e = depth_tree (get u.nodes) u.root u.sound u.ordered x b e ∙ cases (depth_at (held_of u b)) refl
              where
                cases : (d : ℕ) → depth_at (held_of u b) ≡ d → depth_at (held_of u b) ≡ 0
                cases zero f = f
                cases (suc d) f =
                    let was = stood_before x b e (omega arith) in
                    let same : a.key ≡ b = same_Some _ _ (sym a.at ∙ was) in
                    not_gone (gone_at (held_of u b)) (ap (λ k. gone_at (held_of u k)) (sym same) ∙ a.gone l) (follow_stands (get u.nodes) u.root u.sound u.ordered x b e)

        high : {m : ℕ} (x : Path) → Above x m (suc n) → suc n ≤ m → 1 ≤ depth_of (tree_of u x)
        high x a l =
            let e = stood_follow (get u.nodes) u.root u.sound u.ordered x a.key (stood_on x a.key a.at a.deep) (a.stands l) in
            let d = depth_tree (get u.nodes) u.root u.sound u.ordered x a.key e in
            let z = stays.depth a.key in
            let y = a.deep in
            omega arith

    -- an evaluation that was in progress there is so still
    pub stays_held : (d : ℕ) → 1 ≤ d → d ≤ depth_in t place → Holds u place p d
    stays_held d least most = record {
      least = least;
      most = let z = stays.depth place.key in omega arith;
      somewhere = by (gone_at (held_of u place.key)) refl;
    }
      where
        by : (b : Bool) → gone_at (held_of u place.key) ≡ b → Names u place p ⊎ ((n : ℕ) × IsGone u place p n)
        by false e = inl (stood_follow (get u.nodes) u.root u.sound u.ordered p place.key (stood_on p place.key named deep) e)
        by true e = let h = some_highest (get u.nodes) u.root u.sound u.ordered place.key e in inr (h.0, gone_there h.0 h.1)

-- An evaluation begins in the interpreter that the place names.
module _ (s : Tree) (place : Place) (p : Path) (named : Names s place p) where
  pub over_or_not : (a : ℕ) → Over (held_of s) a place.key ⊎ (Over (held_of s) a place.key → Prim.⊥)
  over_or_not a = over_cases (get s.nodes) s.root s.ordered a place.key

  pub over_there : (a : ℕ) → Over (held_of s) a place.key → is_some (held_of s a) ≡ true
  over_there a w =
      let q = over_path (get s.nodes) s.root s.ordered s.sound a p place.key named w in
      follow_there (get s.nodes) s.root s.sound s.ordered q.0 a q.2

  module _ (t u : Tree) (keys : (q : Path) → key_of t q ≡ key_of s q) (deep : Deepens (held_of s) place.key (held_of t)) (stays : Stays (held_of t) (held_of u)) where
    -- it is in progress still, there or in one that is gone
    pub began_holds : Holds u place p 1
    began_holds =
        let d : depth_in t place ≡ suc (depth_at (held_of s place.key)) = ap depth_at (deep.over place.key here) ∙ (deeper_at (held_of s place.key) (over_there place.key here)).1 in
        stays_held t u stays place p (keys p ∙ named) (omega arith) 1 (omega arith) (omega arith)

    -- and it is the last one that began there
    pub began_innermost : IsInnermost (held_of u) place.key
    began_innermost = stays_innermost (held_of s) (held_of t) (held_of u) s.ordered.depths place.key over_there over_or_not deep stays
