-- Lemmas on interpreters that are taken out of the tree, and stay in the table where they are in use; and on new ones.
use Rattle.std.proofs.Common.{◌≡◌, ℕ, zero, suc, ◌+◌, ◌<◌, ◌≤◌, ◌^◌, Bool, true, false, [], ◌∷◌, ◌++◌, length, cond, refl, sym, ◌∙◌, ap, subst, inl, inr, arith, append-nil, Option, Some, None}
use Rattle.std.specs.Prelude.{◌≢◌, ◌⊎◌, is_some, not, ◌==◌, IfSome}
use Rattle.std.specs.Option.{option_map}
use Rattle.std.specs.Map.{lookup, keys_of}
use Rattle.std.specs.Str.{bytes_eq}
use Rattle.std.proofs.lemmas.Bool.{cases_eq}
use Rattle.std.proofs.lemmas.Bool.Decides.{nat_tests}
use Rattle.std.proofs.lemmas.Slice.Eq.{bytes_eq-Decides}
use Rattle.std.proofs.lemmas.Option.{same_Some}
use Rattle.indexmap.specs.IndexMap.{get, keys}
use Rattle.slab.specs.Slab as slab
use Rattle.slab.specs.Slab.{Slab}
use Rattle.tcl_interpreter.specs.Nodes.{Departed, left_of, left_by}
use Rattle.tcl_interpreter.specs.Paths.{Text, Path, is_above}
use Rattle.tcl_interpreter.specs.declared.node.Node.{Node}
use Rattle.tcl_interpreter.proofs.PathLemmas.{text_cases, above_cases, above_self, above_append}
use Rattle.tcl_tree.specs.Nodes.{Heap, NodeView, Attached, SameTable, child_in, follow, tree_in, link_in, level_in, pruned, IsSound, IsGuarded}
use Rattle.tcl_tree.specs.Held.{Held, held_by, held_in, above_at, depth_at, gone_at, parted, parted_by, stands, tally, standing, Gains, IsOrdered}
use Rattle.tcl_tree.specs.Held.{Keys, Parts}
use Rattle.tcl_tree.specs.Gone.{held_of}
use Rattle.tcl_tree.specs.TreeOf.{key_of, tree_of}
use Rattle.tcl_tree.specs.declared.tree.Tree.{Tree}
use Rattle.tcl_tree.proofs.CoreLemmas.{tree_there}
use Rattle.tcl_tree.proofs.HeapLemmas.{Grows, follow_grown}
use Rattle.tcl_tree.proofs.StepLemmas.{child-at, child-none, link-at, link-none, level-at, level-none, level-eq, children-at, children-none, leads_somewhere, no-child}
use Rattle.tcl_tree.proofs.DepthLemmas.{held_kept, ordered_kept}
use Rattle.tcl_tree.proofs.HeldLemmas.{held-at, held-eq, held-none, follow_stands, follow_there, no_above, not_gone, same_above, above-there, above-link}
use Rattle.tcl_tree.proofs.GoneLemmas.{Beside, beside_sound, beside_guarded, beside_follow, beside_tree, beside_child}
use Rattle.tcl_tree.proofs.MakeLemmas.{grows_out, sound_out, guarded_out, keys_out, parent_out, tree_out, grows_created, below_leaf}

-- ## Counting

pub tally_same : (f g : ℕ → Bool) (m : ℕ) → ((k : ℕ) → k < m → f k ≡ g k) → tally f m ≡ tally g m
unfolding tally
tally_same f g zero e = refl
tally_same f g (suc m) e = (λ i. cond (e m (omega arith) i) 1 0 + tally_same f g m (λ k l. e k (omega arith)) i)

one_here : (b d : Bool) (x y : ℕ) → b ≡ true → d ≡ false → x ≡ y → (cond d 1 0 + x) + 1 ≡ cond b 1 0 + y
one_here true false x y p q e = omega arith
one_here true true x y p q e = let z : true ≡ false = q in cc
one_here false d x y p q e = let z : false ≡ true = p in cc

one_below : (b d : Bool) (x y : ℕ) → d ≡ b → x + 1 ≡ y → (cond d 1 0 + x) + 1 ≡ cond b 1 0 + y
one_below true true x y p e = omega arith
one_below false false x y p e = omega arith
one_below true false x y p e = let z : false ≡ true = p in cc
one_below false true x y p e = let z : true ≡ false = p in cc

pub tally_less : (f g : ℕ → Bool) (x m : ℕ) → x < m → f x ≡ true → g x ≡ false → ((k : ℕ) → k ≢ x → g k ≡ f k) → tally g m + 1 ≡ tally f m
unfolding tally
tally_less f g x zero l t u e = absurd (omega arith)
tally_less f g x (suc m) l t u e = elim (cases_eq x m) [
  | inl same ↦
      let c = tally_same f g m (λ k h. sym (e k (λ is. absurd (omega arith)))) in
      one_here (f m) (g m) (tally g m) (tally f m) (ap f (sym same) ∙ t) (ap g (sym same) ∙ u) (sym c)
  | inr other ↦
      one_below (f m) (g m) (tally g m) (tally f m) (e m (λ is. other (sym is))) (tally_less f g x m (omega arith) t u e)
]

-- ## One that has no children is taken out

left_held : (node : Node) → option_map held_by (left_of node) ≡ parted (Some (held_by node))
left_held node = by (node.state.depth == 0)
  where
    by : (b : Bool) → option_map held_by (left_by b node) ≡ parted_by b (held_by node)
    by true = refl
    by false = refl

module _ (s t : Slab Node) (root : ℕ) (sound : IsSound (slab.get s) root) (o : IsOrdered (slab.get s) root) (key : ℕ) (node : Node) (pk : ℕ) (d : Departed s t key node pk)
    (is : slab.get s key ≡ Some node) (parent : node.parent ≡ Some pk) (leaf : node.children.entries ≡ []) (stands_here : gone_at (held_in (slab.get s) key) ≡ false) (apart : pk ≢ key) where
  above : above_at (held_in (slab.get s) key) ≡ Some (pk, node.name)
  above = ap above_at (held-at (slab.get s) key node is) ∙ ap (option_map (λ j. (j, node.name))) parent

  child : child_in (slab.get s) pk node.name ≡ Some key
  child = o.child key pk node.name stands_here above

  parent_is : slab.get d.middle pk ≡ Some d.out.new → slab.get t pk ≡ Some d.out.new
  parent_is e = d.left.others pk apart ∙ e

  sound_mid : IsSound (slab.get d.middle) root
  sound_mid = sound_out s d.middle root sound key node pk d.out is parent leaf child

  link : link_in (slab.get s) key ≡ Some (Some (pk, node.name))
  link = above-link (slab.get s) key pk node.name above

  -- what is left under the key: nothing, or the node, which is gone
  left_cases : (slab.get t key ≡ None) ⊎ (slab.get t key ≡ Some (record node { gone = true }))
  left_cases = by (node.state.depth == 0) d.left.changed
    where
      by : (b : Bool) → slab.get t key ≡ left_by b node → (slab.get t key ≡ None) ⊎ (slab.get t key ≡ Some (record node { gone = true }))
      by true e = inl e
      by false e = inr e

  beside : Beside (slab.get d.middle) (slab.get t) root key
  beside = record {
    others = d.left.others;
    bare = λ n. child-none (slab.get d.middle) key n d.out.gone;
    still_bare = λ n. elim left_cases [
      | inl e ↦ child-none (slab.get t) key n e
      | inr e ↦ child-at (slab.get t) key n _ e ∙ ap (lookup (bytes_eq n)) leaf
    ];
    apart = λ e. let x : ◌≡◌ {A = Option (Option (ℕ × Text))} (Some (Some (pk, node.name))) (Some None) = sym link ∙ ap (link_in (slab.get s)) e ∙ sound.top in absurd (cc);
    orphan = λ k n c e same.
        let x : ◌≡◌ {A = Option (Option (ℕ × Text))} None (Some (Some (k, n))) = sym (link-none (slab.get d.middle) key d.out.gone) ∙ ap (link_in (slab.get d.middle)) (sym same) ∙ sound_mid.down k n c e in
        absurd (cc);
    no_root = λ e. elim left_cases [
      | inl f ↦ let x : ◌≡◌ {A = Option (Option (ℕ × Text))} None (Some None) = sym (link-none (slab.get t) key f) ∙ e in absurd (cc)
      | inr f ↦
          let now : link_in (slab.get t) key ≡ Some (Some (pk, node.name)) = link-at (slab.get t) key _ f ∙ ap (λ o. Some (option_map (λ j. (j, node.name)) o)) parent in
          let x : ◌≡◌ {A = Option (Option (ℕ × Text))} (Some (Some (pk, node.name))) (Some None) = sym now ∙ e in
          absurd (cc)
    ];
    fits = elim left_cases [
      | inl e ↦ let x = level-none (slab.get t) key e in omega arith
      | inr e ↦ let x = level-at (slab.get t) key _ e in let y = level-at (slab.get s) key node is in let z = sound.fits key in omega arith
    ];
    few = elim left_cases [
      | inl e ↦ let x = children-none (slab.get t) key e in omega arith
      | inr e ↦ let x = children-at (slab.get t) key _ e ∙ ap (λ es. length (keys_of es)) leaf in omega arith
    ];
  }

  pub sound_detached : IsSound (slab.get t) root
  sound_detached = beside_sound (slab.get d.middle) (slab.get t) root key beside sound_mid

  pub guarded_detached : IsGuarded (slab.get s) → IsGuarded (slab.get t)
  guarded_detached g = beside_guarded (slab.get d.middle) (slab.get t) root key beside (guarded_out s d.middle root sound key node pk d.out is parent leaf child g)

  pub keys_detached : (q : Path) (k : ℕ) → follow (slab.get s) root q ≡ Some k → k ≢ key → follow (slab.get t) root q ≡ Some k
  keys_detached q k e other = beside_follow (slab.get d.middle) (slab.get t) root key beside q root ∙ keys_out s d.middle root sound key node pk d.out is parent leaf child q k e other

  pub before_detached : (q : Path) (k : ℕ) → follow (slab.get t) root q ≡ Some k → follow (slab.get s) root q ≡ Some k
  before_detached q k e = follow_grown (slab.get d.middle) (slab.get s) root pk node.name key
      (grows_out s d.middle root sound key node pk d.out is parent leaf child) sound_mid q k (sym (beside_follow (slab.get d.middle) (slab.get t) root key beside q root) ∙ e)

  pub parent_detached : (p : Path) (n : Text) → follow (slab.get s) root (p ++ n ∷ []) ≡ Some key → follow (slab.get t) root p ≡ Some pk
  parent_detached p n leads = beside_follow (slab.get d.middle) (slab.get t) root key beside p root ∙ parent_out s d.middle root sound key node pk d.out is parent leaf child p n leads

  pub tree_detached : (p : Path) (n : Text) → follow (slab.get s) root (p ++ n ∷ []) ≡ Some key → (q : Path) → tree_in (slab.get t) root q ≡ pruned (tree_in (slab.get s) root) p n q
  tree_detached p n leads q =
      beside_tree (slab.get d.middle) (slab.get t) root key beside (λ x e. leads_somewhere (slab.get d.middle) root sound_mid x key e d.out.gone) q
      ∙ tree_out s d.middle root sound key node pk d.out is parent leaf child p n leads q

  -- by the keys
  pub here_detached : held_in (slab.get t) key ≡ parted (held_in (slab.get s) key)
  unfolding held_in
  here_detached = ap (option_map held_by) d.left.changed ∙ left_held node ∙ ap parted (sym (held-at (slab.get s) key node is))

  pub others_detached : (k : ℕ) → k ≢ key → held_in (slab.get t) k ≡ held_in (slab.get s) k
  others_detached k other = elim (cases_eq k pk) [
    | inl e ↦ ap (held_in (slab.get t)) e ∙ at_parent ∙ ap (held_in (slab.get s)) (sym e)
    | inr p ↦ held-eq (slab.get s) (slab.get t) k (d.left.others k other ∙ d.out.others k p other)
  ]
    where
      at_parent : held_in (slab.get t) pk ≡ held_in (slab.get s) pk
      at_parent =
          held-at (slab.get t) pk d.out.new (parent_is d.out.new_is)
          ∙ (λ i. Some (record { above = option_map (λ j. (j, d.out.name i)) (d.out.parent i); depth = (ap (λ (v : NodeView). v.depth) d.out.view) i; gone = d.out.stands i }))
          ∙ sym (held-at (slab.get s) pk d.out.old d.out.old_is)

  above_before : (c k : ℕ) (n : Text) → above_at (held_in (slab.get t) c) ≡ Some (k, n) → above_at (held_in (slab.get s) c) ≡ Some (k, n)
  above_before c k n e = elim (cases_eq c key) [
    | inl same ↦ ap (λ x. above_at (held_in (slab.get s) x)) same ∙ above_left (held_in (slab.get s) key) (sym (ap above_at (ap (held_in (slab.get t)) same ∙ here_detached)) ∙ e)
    | inr other ↦ sym (ap above_at (others_detached c other)) ∙ e
  ]
    where
      above_left : (x : Option Held) → above_at (parted x) ≡ Some (k, n) → above_at x ≡ Some (k, n)
      above_left None e = e
      above_left (Some x) e = by (x.depth == 0) e
        where
          by : (b : Bool) → above_at (parted_by b x) ≡ Some (k, n) → x.above ≡ Some (k, n)
          by true e = no_above (k, n) (above_at None) e refl
          by false e = e

  depth_kept : (k : ℕ) → depth_at (held_in (slab.get t) k) ≡ depth_at (held_in (slab.get s) k)
  depth_kept k = elim (cases_eq k key) [
    | inl same ↦ ap (λ x. depth_at (held_in (slab.get t) x)) same ∙ ap depth_at here_detached ∙ by (held_in (slab.get s) key) ∙ ap (λ x. depth_at (held_in (slab.get s) x)) (sym same)
    | inr other ↦ ap depth_at (others_detached k other)
  ]
    where
      by : (x : Option Held) → depth_at (parted x) ≡ depth_at x
      by None = refl
      by (Some x) = cases (x.depth == 0) refl
        where
          cases : (b : Bool) → (x.depth == 0) ≡ b → depth_at (parted_by b x) ≡ x.depth
          cases true e = let z : x.depth ≡ 0 = grind (arith, nat_tests) in sym z
          cases false e = refl

  -- nobody is below it but in use
  leaf_below : (c : ℕ) (n : Text) → above_at (held_in (slab.get s) c) ≡ Some (key, n) → 1 ≤ depth_at (held_in (slab.get s) key)
  leaf_below c n e = by (gone_at (held_in (slab.get s) c)) refl
    where
      by : (b : Bool) → gone_at (held_in (slab.get s) c) ≡ b → 1 ≤ depth_at (held_in (slab.get s) key)
      by true f = let x = o.used c f in let y = o.depths c key n e in omega arith
      by false f =
          let x : ◌≡◌ {A = Option ℕ} None (Some c) = sym (child-at (slab.get s) key n node is ∙ ap (lookup (bytes_eq n)) leaf) ∙ o.child c key n f e in
          absurd (cc)

  deep_left : 1 ≤ depth_at (held_in (slab.get s) key) → held_in (slab.get t) key ≡ Some (record (held_by node) { gone = true })
  deep_left l = by (node.state.depth == 0) refl (held-at (slab.get s) key node is)
    where
      by : (b : Bool) → (node.state.depth == 0) ≡ b → held_in (slab.get s) key ≡ Some (held_by node) → held_in (slab.get t) key ≡ Some (record (held_by node) { gone = true })
      by true e f = let z : node.state.depth ≡ 0 = grind (arith, nat_tests) in let y = ap depth_at f in absurd (omega arith)
      by false e f = here_detached ∙ ap parted f ∙ ap (λ b. parted_by b (held_by node)) e

  key_there : 1 ≤ depth_at (held_in (slab.get s) key) → is_some (held_in (slab.get t) key) ≡ true
  key_there l = ap (λ x. is_some x) (deep_left l)

  key_level : is_some (held_in (slab.get t) key) ≡ true → level_in (slab.get t) key ≡ level_in (slab.get s) key
  key_level there = elim left_cases [
    | inl e ↦ not_gone (is_some (held_in (slab.get t) key)) there (ap (λ x. is_some x) (held-none (slab.get t) key e))
    | inr e ↦ level-at (slab.get t) key _ e ∙ sym (level-at (slab.get s) key node is)
  ]

  level_kept : (k : ℕ) → is_some (held_in (slab.get t) k) ≡ true → level_in (slab.get t) k ≡ level_in (slab.get s) k
  level_kept k there = elim (cases_eq k key) [
    | inl same ↦ ap (level_in (slab.get t)) same ∙ key_level (ap (λ x. is_some (held_in (slab.get t) x)) (sym same) ∙ there) ∙ ap (level_in (slab.get s)) (sym same)
    | inr other ↦ elim (cases_eq k pk) [
      | inl e ↦ ap (level_in (slab.get t)) e ∙ level-at (slab.get t) pk d.out.new (parent_is d.out.new_is) ∙ d.out.level ∙ sym (ap (level_in (slab.get s)) e ∙ level-at (slab.get s) pk d.out.old d.out.old_is)
      | inr p ↦ level-eq (slab.get t) (slab.get s) k (d.left.others k other ∙ d.out.others k p other)
    ]
  ]

  -- a child of another name, or of another parent, is still one
  child_after : (k : ℕ) (n : Text) (c : ℕ) → c ≢ key → child_in (slab.get s) k n ≡ Some c → child_in (slab.get t) k n ≡ Some c
  child_after k n c other e = beside_child (slab.get d.middle) (slab.get t) root key beside k n ∙ by
    where
      grow : Grows (slab.get d.middle) (slab.get s) pk node.name key
      grow = grows_out s d.middle root sound key node pk d.out is parent leaf child

      by : child_in (slab.get d.middle) k n ≡ Some c
      by = elim (cases_eq k key) [
        | inl same ↦
            let x : ◌≡◌ {A = Option ℕ} None (Some c) = sym (ap (λ y. child_in (slab.get s) y n) same ∙ grow.child_new n) ∙ e in
            absurd (cc)
        | inr k_other ↦ elim (cases_eq k pk) [
          | inl at ↦
              let was = sym (ap (λ y. child_in (slab.get s) y n) at ∙ grow.child_parent n) ∙ e in
              elim (text_cases node.name n) [
                | inl w ↦ absurd (other (sym (same_Some _ _ (sym (ap (λ b. cond b (Some key) (child_in (slab.get d.middle) pk n)) w.1) ∙ was))))
                | inr w ↦ ap (λ y. child_in (slab.get d.middle) y n) at ∙ sym (ap (λ b. cond b (Some key) (child_in (slab.get d.middle) pk n)) w.1) ∙ was
              ]
          | inr p ↦ sym (grow.child_other k n p k_other) ∙ e
        ]
      ]

  child_before : (k : ℕ) (n : Text) (c : ℕ) → child_in (slab.get t) k n ≡ Some c → (c ≢ key) × (child_in (slab.get s) k n ≡ Some c)
  child_before k n c e =
      let f = sym (beside_child (slab.get d.middle) (slab.get t) root key beside k n) ∙ e in
      (beside.orphan k n c f, by f)
    where
      grow : Grows (slab.get d.middle) (slab.get s) pk node.name key
      grow = grows_out s d.middle root sound key node pk d.out is parent leaf child

      by : child_in (slab.get d.middle) k n ≡ Some c → child_in (slab.get s) k n ≡ Some c
      by f = elim (cases_eq k key) [
        | inl same ↦
            let x : ◌≡◌ {A = Option ℕ} None (Some c) = sym (ap (λ y. child_in (slab.get d.middle) y n) same ∙ grow.child_was n) ∙ f in
            absurd (cc)
        | inr k_other ↦ elim (cases_eq k pk) [
          | inl at ↦ elim (text_cases node.name n) [
            | inl w ↦
                let none = (λ i. child_in (slab.get d.middle) (at i) (sym w.0 i)) ∙ grow.absent in
                let x : ◌≡◌ {A = Option ℕ} None (Some c) = sym none ∙ f in
                absurd (cc)
            | inr w ↦
                ap (λ y. child_in (slab.get s) y n) at ∙ grow.child_parent n ∙ ap (λ b. cond b (Some key) (child_in (slab.get d.middle) pk n)) w.1
                ∙ sym (ap (λ y. child_in (slab.get d.middle) y n) at) ∙ f
          ]
          | inr p ↦ grow.child_other k n p k_other ∙ f
        ]
      ]

  pub ordered_detached : IsOrdered (slab.get t) root
  ordered_detached = record {
    root_stands = ap gone_at (others_detached root (λ e. beside.apart (sym e))) ∙ o.root_stands;
    stands = λ k n c e. let f = child_before k n c e in ap gone_at (others_detached c f.0) ∙ o.stands k n c f.1;
    child = λ c k n f e. elim (cases_eq c key) [
      | inl same ↦ not_gone (gone_at (held_in (slab.get t) c)) (still c same (above-there (held_in (slab.get t) c) (k, n) e)) f
      | inr other ↦ child_after k n c other (o.child c k n (sym (ap gone_at (others_detached c other)) ∙ f) (above_before c k n e))
    ];
    bare = λ k n f. elim (cases_eq k key) [
      | inl same ↦ ap (λ x. child_in (slab.get t) x n) same ∙ beside.still_bare n
      | inr other ↦ none_after k n (o.bare k n (sym (ap gone_at (others_detached k other)) ∙ f))
    ];
    there = λ c k n e.
        let f = above_before c k n e in
        elim (cases_eq k key) [
          | inl same ↦ ap (λ x. is_some (held_in (slab.get t) x)) same ∙ key_there (leaf_below c n (f ∙ ap (λ x. Some (x, n)) same))
          | inr other ↦ ap (λ x. is_some x) (others_detached k other) ∙ o.there c k n f
        ];
    levels = λ c k n e.
        let f = above_before c k n e in
        let z = o.levels c k n f in
        let x = level_kept c (above-there (held_in (slab.get t) c) (k, n) e) in
        let y = level_kept k (elim (cases_eq k key) [
          | inl same ↦ ap (λ x. is_some (held_in (slab.get t) x)) same ∙ key_there (leaf_below c n (f ∙ ap (λ x. Some (x, n)) same))
          | inr other ↦ ap (λ x. is_some x) (others_detached k other) ∙ o.there c k n f
        ]) in
        omega arith;
    depths = λ c k n e. let x = depth_kept c in let y = depth_kept k in let z = o.depths c k n (above_before c k n e) in omega arith;
    used = λ k f. elim (cases_eq k key) [
      | inl same ↦ key_used k same f
      | inr other ↦ let x = depth_kept k in let y = o.used k (sym (ap gone_at (others_detached k other)) ∙ f) in omega arith
    ];
  }
    where
      still : (c : ℕ) → c ≡ key → is_some (held_in (slab.get t) c) ≡ true → gone_at (held_in (slab.get t) c) ≡ true
      still c same there = ap (λ i. gone_at (held_in (slab.get t) i)) same ∙ by left_cases
        where
          by : (slab.get t key ≡ None) ⊎ (slab.get t key ≡ Some (record node { gone = true })) → gone_at (held_in (slab.get t) key) ≡ true
          by (inl e) = not_gone (is_some (held_in (slab.get t) key)) (ap (λ i. is_some (held_in (slab.get t) i)) (sym same) ∙ there) (ap (λ x. is_some x) (held-none (slab.get t) key e))
          by (inr e) = ap gone_at (held-at (slab.get t) key _ e)

      none_after : (k : ℕ) (n : Text) → child_in (slab.get s) k n ≡ None → child_in (slab.get t) k n ≡ None
      none_after k n e = by (child_in (slab.get t) k n) refl
        where
          by : (x : Option ℕ) → child_in (slab.get t) k n ≡ x → x ≡ None
          by None f = refl
          by (Some c) f = let z : ◌≡◌ {A = Option ℕ} None (Some c) = sym e ∙ (child_before k n c f).1 in absurd (cc)

      key_used : (k : ℕ) → k ≡ key → gone_at (held_in (slab.get t) k) ≡ true → 1 ≤ depth_at (held_in (slab.get t) k)
      key_used k same f = by (held_in (slab.get s) key) here_detached
        where
          by : (x : Option Held) → held_in (slab.get t) key ≡ parted x → 1 ≤ depth_at (held_in (slab.get t) k)
          by None e = not_gone (gone_at (held_in (slab.get t) k)) f (ap (λ i. gone_at (held_in (slab.get t) i)) same ∙ ap gone_at e)
          by (Some x) e = cases (x.depth == 0) refl e
            where
              cases : (b : Bool) → (x.depth == 0) ≡ b → held_in (slab.get t) key ≡ parted_by b x → 1 ≤ depth_at (held_in (slab.get t) k)
              cases true g e = not_gone (gone_at (held_in (slab.get t) k)) f (ap (λ i. gone_at (held_in (slab.get t) i)) same ∙ ap gone_at e)
              cases false g e =
                  let y : depth_at (held_in (slab.get t) k) ≡ x.depth = ap (λ i. depth_at (held_in (slab.get t) i)) same ∙ ap depth_at e in
                  let z : x.depth ≢ 0 = λ q. not_gone (x.depth == 0) (grind (arith, nat_tests)) g in
                  omega arith

  -- one less stands
  pub fewer_stand : key < 2 ^ 64 → standing t + 1 ≡ standing s
  fewer_stand l = tally_less (λ k. stands (slab.get s k)) (λ k. stands (slab.get t k)) key (2 ^ 64) l
      (ap stands is ∙ ap not (sym (ap gone_at (held-at (slab.get s) key node is)) ∙ stands_here))
      (elim left_cases [
        | inl e ↦ ap stands e
        | inr e ↦ ap stands e
      ])
      (λ k other. elim (cases_eq k pk) [
        | inl e ↦ ap stands (ap (slab.get t) e ∙ parent_is d.out.new_is) ∙ ap not d.out.stands ∙ sym (ap stands (ap (slab.get s) e ∙ d.out.old_is))
        | inr p ↦ ap stands (d.left.others k other ∙ d.out.others k p other)
      ])

-- ## One more

pub ordered_grown : (h h₁ : Heap) (root pk : ℕ) (name : Text) (nk d : ℕ) → Grows h h₁ pk name nk → IsOrdered h root → gone_at (held_in h pk) ≡ false → d ≤ depth_at (held_in h pk)
    → is_some (held_in h pk) ≡ true → held_in h nk ≡ None → held_in h₁ nk ≡ Some (record { above = Some (pk, name); depth = d; gone = false }) → ((k : ℕ) → k ≢ nk → held_in h₁ k ≡ held_in h k) → IsOrdered h₁ root
ordered_grown h h₁ root pk name nk d g o parent deep parent_some was now others = record {
  root_stands = by_other (λ x. gone_at x ≡ false) root o.root_stands (ap gone_at now);
  stands = λ k n c e. elim (cases_eq c nk) [
    | inl same ↦ ap (λ x. gone_at (held_in h₁ x)) same ∙ ap gone_at now
    | inr other ↦ ap gone_at (others c other) ∙ o.stands k n c (child_was k n c other e)
  ];
  child = λ c k n f e. elim (cases_eq c nk) [
    | inl same ↦
        let x = same_above pk k name n (sym (ap above_at now) ∙ ap (λ y. above_at (held_in h₁ y)) (sym same) ∙ e) in
        (λ i. child_in h₁ (sym x.0 i) (sym x.1 i)) ∙ named ∙ ap Some (sym same)
    | inr other ↦ child_is k n c (o.child c k n (sym (ap gone_at (others c other)) ∙ f) (sym (ap above_at (others c other)) ∙ e))
  ];
  bare = λ k n f. elim (cases_eq k nk) [
    | inl same ↦ ap (λ x. child_in h₁ x n) same ∙ g.child_new n
    | inr other ↦
        let was_gone = sym (ap gone_at (others k other)) ∙ f in
        g.child_other k n (λ e. not_gone (gone_at (held_in h k)) was_gone (ap (λ x. gone_at (held_in h x)) e ∙ parent)) other ∙ o.bare k n was_gone
  ];
  there = λ c k n e. elim (cases_eq c nk) [
    | inl same ↦
        let x = same_above pk k name n (sym (ap above_at now) ∙ ap (λ y. above_at (held_in h₁ y)) (sym same) ∙ e) in
        ap (λ y. is_some (held_in h₁ y)) (sym x.0) ∙ ap (λ y. is_some y) (others pk g.apart) ∙ parent_some
    | inr other ↦
        let f = o.there c k n (sym (ap above_at (others c other)) ∙ e) in
        ap (λ y. is_some y) (others k (old_key k f)) ∙ f
  ];
  levels = λ c k n e. elim (cases_eq c nk) [
    | inl same ↦
        let x = same_above pk k name n (sym (ap above_at now) ∙ ap (λ y. above_at (held_in h₁ y)) (sym same) ∙ e) in
        let a = ap (level_in h₁) same in
        let b = g.level_new in
        let l = g.level_other pk g.apart in
        let m = ap (level_in h₁) x.0 in
        omega arith
    | inr other ↦
        let f = sym (ap above_at (others c other)) ∙ e in
        let a = g.level_other c other in
        let b = g.level_other k (old_key k (o.there c k n f)) in
        let l = o.levels c k n f in
        omega arith
  ];
  depths = λ c k n e. elim (cases_eq c nk) [
    | inl same ↦
        let x = same_above pk k name n (sym (ap above_at now) ∙ ap (λ y. above_at (held_in h₁ y)) (sym same) ∙ e) in
        let a = ap (λ y. depth_at (held_in h₁ y)) same ∙ ap depth_at now in
        let b = ap (λ y. depth_at (held_in h₁ y)) (sym x.0) ∙ ap depth_at (others pk g.apart) in
        omega arith
    | inr other ↦
        let f = sym (ap above_at (others c other)) ∙ e in
        let a = ap depth_at (others c other) in
        let b = ap depth_at (others k (old_key k (o.there c k n f))) in
        let l = o.depths c k n f in
        omega arith
  ];
  used = λ k f. elim (cases_eq k nk) [
    | inl same ↦ not_gone (gone_at (held_in h₁ k)) f (ap (λ x. gone_at (held_in h₁ x)) same ∙ ap gone_at now)
    | inr other ↦ let a = ap depth_at (others k other) in let b = o.used k (sym (ap gone_at (others k other)) ∙ f) in omega arith
  ];
}
  where
    by_other : (P : Option Held → Type 0) (k : ℕ) → P (held_in h k) → P (held_in h₁ nk) → P (held_in h₁ k)
    by_other P k a b = elim (cases_eq k nk) [
      | inl same ↦ subst (λ x. P (held_in h₁ x)) (sym same) b
      | inr other ↦ subst P (sym (others k other)) a
    ]

    old_key : (k : ℕ) → is_some (held_in h k) ≡ true → k ≢ nk
    old_key k there same = not_gone (is_some (held_in h k)) there (ap (λ x. is_some (held_in h x)) same ∙ ap (λ x. is_some x) was)

    named : child_in h₁ pk name ≡ Some nk
    named = g.child_parent name ∙ ap (λ b. cond b (Some nk) (child_in h pk name)) ((bytes_eq-Decides name name).1 refl)

    child_is : (k : ℕ) (n : Text) (c : ℕ) → child_in h k n ≡ Some c → child_in h₁ k n ≡ Some c
    child_is k n c e = elim (cases_eq k nk) [
      | inl same ↦ let x : ◌≡◌ {A = Option ℕ} None (Some c) = sym (ap (λ y. child_in h y n) same ∙ g.child_was n) ∙ e in absurd (cc)
      | inr other ↦ elim (cases_eq k pk) [
        | inl at ↦ elim (text_cases name n) [
          | inl w ↦ let x : ◌≡◌ {A = Option ℕ} None (Some c) = sym ((λ i. child_in h (at i) (sym w.0 i)) ∙ g.absent) ∙ e in absurd (cc)
          | inr w ↦ ap (λ y. child_in h₁ y n) at ∙ g.child_parent n ∙ ap (λ b. cond b (Some nk) (child_in h pk n)) w.1 ∙ sym (ap (λ y. child_in h y n) at) ∙ e
        ]
        | inr p ↦ g.child_other k n p other ∙ e
      ]
    ]

    child_was : (k : ℕ) (n : Text) (c : ℕ) → c ≢ nk → child_in h₁ k n ≡ Some c → child_in h k n ≡ Some c
    child_was k n c c_other e = elim (cases_eq k nk) [
      | inl same ↦ let x : ◌≡◌ {A = Option ℕ} None (Some c) = sym (ap (λ y. child_in h₁ y n) same ∙ g.child_new n) ∙ e in absurd (cc)
      | inr other ↦ elim (cases_eq k pk) [
        | inl at ↦
            let f = sym (ap (λ y. child_in h₁ y n) at ∙ g.child_parent n) ∙ e in
            elim (text_cases name n) [
              | inl w ↦ absurd (c_other (sym (same_Some _ _ (sym (ap (λ b. cond b (Some nk) (child_in h pk n)) w.1) ∙ f))))
              | inr w ↦ ap (λ y. child_in h y n) at ∙ sym (ap (λ b. cond b (Some nk) (child_in h pk n)) w.1) ∙ f
            ]
        | inr p ↦ sym (g.child_other k n p other) ∙ e
      ]
    ]

-- room was made, and then a node attached
module _ (s r t : Slab Node) (root pk : ℕ) (name label : Text) (node up : Node) (same : SameTable s r) (a : Attached r t pk label node)
    (up_is : Some up ≡ slab.get s pk) (label_is : label ≡ name) (parent : node.parent ≡ Some pk) (named : node.name ≡ name)
    (leaf : node.children.entries ≡ []) (level : node.level ≡ up.level + 1) (absent : get bytes_eq up.children name ≡ None) (fits : node.level < 2 ^ 64)
    (sound : IsSound (slab.get s) root) (p : Path) (at : follow (slab.get s) root p ≡ Some pk) (o : IsOrdered (slab.get s) root) (new_stands : node.gone ≡ false) (idle : node.state.depth ≡ 0) where
  room : (k : ℕ) → held_in (slab.get r) k ≡ held_in (slab.get s) k
  room = held_kept (slab.get s) (slab.get r) same

  now : held_in (slab.get t) a.key ≡ Some (record { above = Some (pk, label); depth = 0; gone = false })
  now = held-at (slab.get t) a.key node a.here ∙ (λ i. Some (record { above = option_map (λ j. (j, (named ∙ sym label_is) i)) (parent i); depth = idle i; gone = new_stands i }))

  others : (k : ℕ) → k ≢ a.key → held_in (slab.get t) k ≡ held_in (slab.get r) k
  others k other = elim (cases_eq k pk) [
    | inl e ↦
        ap (held_in (slab.get t)) e ∙ held-at (slab.get t) pk a.new a.new_is
        ∙ (λ i. Some (record { above = option_map (λ j. (j, a.name i)) (a.parent i); depth = (ap (λ (v : NodeView). v.depth) a.view) i; gone = a.stands i }))
        ∙ sym (held-at (slab.get r) pk a.old a.old_is) ∙ ap (held_in (slab.get r)) (sym e)
    | inr q ↦ held-eq (slab.get r) (slab.get t) k (a.others k q other)
  ]

  pub ordered_created : IsOrdered (slab.get t) root
  ordered_created = ordered_grown (slab.get r) (slab.get t) root pk label a.key 0
      (grows_created s r t root pk name label node up same a up_is label_is parent named leaf level absent fits)
      (ordered_kept (slab.get s) (slab.get r) same root o)
      (ap gone_at (room pk) ∙ follow_stands (slab.get s) root sound o p pk at)
      (omega arith)
      (ap (λ x. is_some x) (room pk) ∙ follow_there (slab.get s) root sound o p pk at)
      (held-none (slab.get r) a.key a.was) now others

  pub gains_created : Gains (held_in (slab.get s)) (held_in (slab.get t))
  gains_created = record {
    kept = λ k x e.
        let other : k ≢ a.key = λ is.
        let y : ◌≡◌ {A = Option Held} None (Some x) = sym (held-none (slab.get r) a.key a.was) ∙ ap (held_in (slab.get r)) (sym is) ∙ room k ∙ e in
        absurd (cc) in
        others k other ∙ room k ∙ e;
    idle = λ k e. elim (cases_eq k a.key) [
      | inl is ↦ (ap (λ x. depth_at (held_in (slab.get t) x)) is ∙ ap depth_at now, ap (λ x. gone_at (held_in (slab.get t) x)) is ∙ ap gone_at now)
      | inr other ↦ let f = others k other ∙ room k ∙ e in (ap depth_at f, ap gone_at f)
    ];
  }

-- a table with one node
module _ (h : Heap) (root : ℕ) (node : Node) (is : h root ≡ Some node) (parent : node.parent ≡ None) (fits : node.level < 2 ^ 64) (leaf : node.children.entries ≡ [])
    (rest : (k : ℕ) → k ≢ root → h k ≡ None) (new_stands : node.gone ≡ false) where
  nobody : (k : ℕ) (x : ℕ × Text) → above_at (held_in h k) ≡ Some x → Prim.⊥
  nobody k x e = elim (cases_eq k root) [
    | inl same ↦ no_above x (above_at (held_in h root)) (ap (λ y. above_at (held_in h y)) (sym same) ∙ e) (ap above_at (held-at h root node is) ∙ ap (option_map (λ j. (j, node.name))) parent)
    | inr other ↦ no_above x (above_at (held_in h k)) e (ap above_at (held-none h k (rest k other)))
  ]

  all_stand : (k : ℕ) → gone_at (held_in h k) ≡ false
  all_stand k = elim (cases_eq k root) [
    | inl same ↦ ap (λ y. gone_at (held_in h y)) same ∙ ap gone_at (held-at h root node is) ∙ new_stands
    | inr other ↦ ap gone_at (held-none h k (rest k other))
  ]

  pub ordered_single : IsOrdered h root
  ordered_single = record {
    root_stands = all_stand root;
    stands = λ k n c e. all_stand c;
    child = λ c k n f e. absurd (nobody c (k, n) e);
    bare = λ k n f. no-child h root node is parent fits leaf rest k n;
    there = λ c k n e. absurd (nobody c (k, n) e);
    levels = λ c k n e. absurd (nobody c (k, n) e);
    depths = λ c k n e. absurd (nobody c (k, n) e);
    used = λ k f. not_gone (gone_at (held_in h k)) f (all_stand k);
  }

-- ## All below a path

-- what stood there stands still, as it was, or was taken out; and nothing else changed
pub record Parting (H : Keys) (keys : Path → Option ℕ) (c : Path) (H₁ : Keys) (keys₁ : Path → Option ℕ) : Type 0 where
  pub below : (q : Path) (k : ℕ) → is_above c q ≡ true → keys q ≡ Some k → ((keys₁ q ≡ Some k) × (H₁ k ≡ H k)) ⊎ (H₁ k ≡ parted (H k))
  pub others : (k : ℕ) → ((q : Path) → is_above c q ≡ true → keys q ≡ Some k → ⊥) → H₁ k ≡ H k
  pub before : (q : Path) (k : ℕ) → keys₁ q ≡ Some k → keys q ≡ Some k

pub parting_first : (H : Keys) (keys : Path → Option ℕ) (c : Path) → Parting H keys c H keys
parting_first H keys c = record {
  below = λ q k above e. inl (e, refl);
  others = λ k n. refl;
  before = λ q k e. e;
}

-- what was taken out doesn't stand
parted_away : (x : Option Held) → is_some (parted x) ≡ true → gone_at (parted x) ≡ true
parted_away None e = e
parted_away (Some x) e = by (x.depth == 0) e
  where
    by : (b : Bool) → is_some (parted_by b x) ≡ true → gone_at (parted_by b x) ≡ true
    by true e = e
    by false e = refl

module _ (t : Tree) (H : Keys) (keys : Path → Option ℕ) (c : Path) (key : ℕ) where
  out_apart : (x : Path) → key_of t x ≡ Some key → (k : ℕ) → held_of t k ≡ parted (H k) → k ≢ key
  out_apart x leads k e same =
      let there = follow_there (slab.get t.nodes) t.root t.sound t.ordered x key leads in
      let stands = follow_stands (slab.get t.nodes) t.root t.sound t.ordered x key leads in
      let f = ap (held_of t) (sym same) ∙ e in
      not_gone (gone_at (held_of t key)) (ap gone_at f ∙ parted_away (H k) (sym (ap (λ o. is_some o) f) ∙ there)) stands

  -- one more was taken out
  pub parting_more : (r : Path) → key_of t (c ++ r) ≡ Some key → (H₁ : Keys) (keys₁ : Path → Option ℕ) → ((q : Path) (k : ℕ) → key_of t q ≡ Some k → k ≢ key → keys₁ q ≡ Some k)
      → ((q : Path) (k : ℕ) → keys₁ q ≡ Some k → key_of t q ≡ Some k) → H₁ key ≡ parted (held_of t key) → ((k : ℕ) → k ≢ key → H₁ k ≡ held_of t k)
      → Parting H keys c (held_of t) (key_of t) → Parting H keys c H₁ keys₁
  parting_more r leads H₁ keys₁ kept back here rest p = record {
    below = λ q k above e. elim (p.below q k above e) [
      | inl w ↦ elim (cases_eq k key) [
        | inl same ↦ inr (ap H₁ same ∙ here ∙ ap (λ x. parted (held_of t x)) (sym same) ∙ ap parted w.1)
        | inr other ↦ inl (kept q k w.0 other, rest k other ∙ w.1)
      ]
      | inr w ↦ inr (rest k (out_apart (c ++ r) leads k w) ∙ w)
    ];
    others = λ k n.
        let other : k ≢ key = λ same. n (c ++ r) (above_append c r) (p.before (c ++ r) k (leads ∙ ap Some (sym same))) in
        rest k other ∙ p.others k n;
    before = λ q k e. p.before q k (back q k e);
  }

  -- the last of all is the one at the path
  pub parting_last : key_of t c ≡ Some key → IfSome (slab.get t.nodes key) (λ node. node.children.entries ≡ []) → (H₁ : Keys) → H₁ key ≡ parted (held_of t key) → ((k : ℕ) → k ≢ key → H₁ k ≡ held_of t k)
      → Parting H keys c (held_of t) (key_of t) → Parts H keys c H₁
  parting_last leads leaf H₁ here rest p = record {
    below = λ q k above e. elim (p.below q k above e) [
      | inl w ↦ elim (above_cases c q) [
        | inl a ↦ top a.0 q k a.1 w.0 w.1
        | inr f ↦ not_gone (is_above c q) above f
      ]
      | inr w ↦ rest k (out_apart c leads k w) ∙ w
    ];
    others = λ k n.
        let other : k ≢ key = λ same. n c (above_self c) (p.before c k (leads ∙ ap Some (sym same))) in
        rest k other ∙ p.others k n;
  }
    where
      top : (r q : Path) (k : ℕ) → q ≡ c ++ r → key_of t q ≡ Some k → held_of t k ≡ H k → H₁ k ≡ parted (H k)
      top [] q k is at same =
          let e : k ≡ key = same_Some _ _ (sym at ∙ ap (key_of t) (is ∙ append-nil c) ∙ leads) in
          ap H₁ e ∙ here ∙ ap (λ x. parted (held_of t x)) (sym e) ∙ ap parted same
      top (m ∷ r) q k is at same =
          let none = below_leaf (slab.get t.nodes) t.root c key m r leads leaf in
          let there = tree_there t (c ++ m ∷ r) k (sym (ap (key_of t) is) ∙ at) in
          not_gone (is_some (tree_of t (c ++ m ∷ r))) there (ap (λ o. is_some o) none)
