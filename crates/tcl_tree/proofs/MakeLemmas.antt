-- Lemmas on interpreters that are made and deleted.
use Rattle.std.proofs.Common.{◌≡◌, ℕ, ◌+◌, ◌-◌, ◌<◌, ◌≤◌, ◌^◌, Bool, true, false, cond, List, [], ◌∷◌, ◌++◌, length, refl, sym, ◌∙◌, ap, inl, inr, arith, suc, subst, length-append, append-nil, append_assoc, Option, Some, None}
use Rattle.std.specs.Prelude.{◌≢◌, is_some, IfSome}
use Rattle.std.specs.Option.{option_and_then, option_map}
use Rattle.std.specs.Str.{bytes_eq}
use Rattle.std.proofs.lemmas.Bool.{cases_eq}
use Rattle.std.proofs.lemmas.Slice.Eq.{bytes_eq-Decides}
use Rattle.std.proofs.lemmas.List.{length-map}
use Rattle.std.proofs.lemmas.Option.{same_Some}
use Rattle.std.specs.Map.{lookup, keys_of}
use Rattle.indexmap.specs.IndexSet.{remove_key}
use Rattle.indexmap.specs.IndexMap.{get, keys}
use Rattle.slab.specs.Slab as slab
use Rattle.slab.specs.Slab.{Slab}
use Rattle.tcl_interpreter.specs.Paths.{Text, Path, is_above, with_node}
use Rattle.tcl_tree.specs.Nodes.{Heap, NodeView, Shape, view_of, shape_of, with_child, without_child, Attached, Joined, Detached, SameTable, grown, pruned, deleted, child_in, follow, tree_in, link_in, level_in, safe_in, children_in, IsSound, IsGuarded}
use Rattle.tcl_interpreter.specs.declared.node.Node.{Node}
use Rattle.tcl_interpreter.proofs.PathLemmas.{path_cases, text_cases, above_cases, above_self, above_append, not_above_front}
use Rattle.tcl_tree.proofs.HeapLemmas.{same_link, last_step, then_child, one_path, tree-none, Grows, guarded-grows, guarded-shrinks, tree-grows, tree-shrinks, sound-grows, sound-shrinks, follow-shrinks, follow_grown, sound_kept, guarded_kept, follow_kept, tree_kept}
use Rattle.tcl_tree.specs.Held.{held_in, above_at, IsOrdered}
use Rattle.tcl_tree.proofs.HeldLemmas.{held-some, link-above}
use Rattle.tcl_tree.proofs.StepLemmas.{child-at, child-eq, child-none, link-at, link-none, link-eq, level-at, level-none, level-eq, safe-at, safe-eq, children-at, children-none, children-eq, tree_some, follow_append}

shorter_removed : (test : Text → Bool) (xs : List Text) → length (remove_key test xs) ≤ length xs
shorter_removed test [] = omega arith
shorter_removed test (x ∷ xs) = by (test x) (shorter_removed test xs)
  where
    by : (b : Bool) → length (remove_key test xs) ≤ length xs → length (cond b xs (x ∷ remove_key test xs)) ≤ suc (length xs)
    by true h = omega arith
    by false h = omega arith

-- what a new child does to the table
module _ (s t : Slab Node) (pk : ℕ) (label : Text) (node : Node) (key : ℕ) (a : Joined s t pk label node key)
    (parent : node.parent ≡ Some pk) (name : node.name ≡ label) (leaf : node.children.entries ≡ []) (level : node.level ≡ a.old.level + 1)
    (absent : get bytes_eq a.old.children label ≡ None) (fits : node.level < 2 ^ 64) where
  pub new_apart : pk ≢ key
  new_apart e = let x : None ≡ Some a.old = sym a.was ∙ sym (ap (slab.get s) e) ∙ a.old_is in cc

  pub grows_joined : Grows (slab.get s) (slab.get t) pk label key
  grows_joined = record {
    child_new = λ n. child-at (slab.get t) key n node a.here ∙ ap (lookup (bytes_eq n)) leaf;
    child_was = λ n. child-none (slab.get s) key n a.was;
    child_parent = λ n. child-at (slab.get t) pk n a.new a.new_is ∙ a.gets n ∙ ap (cond (bytes_eq label n) (Some key)) (sym (child-at (slab.get s) pk n a.old a.old_is));
    child_other = λ k n p q. child-eq (slab.get t) (slab.get s) k n (a.others k p q);
    link_new = link-at (slab.get t) key node a.here ∙ (λ i. Some (option_map (λ j. (j, name i)) (parent i)));
    link_was = link-none (slab.get s) key a.was;
    link_other = λ k other. elim (cases_eq k pk) [
      | inl e ↦
          ap (link_in (slab.get t)) e ∙ link-at (slab.get t) pk a.new a.new_is ∙ (λ i. Some (option_map (λ j. (j, a.name i)) (a.parent i)))
          ∙ sym (ap (link_in (slab.get s)) e ∙ link-at (slab.get s) pk a.old a.old_is)
      | inr p ↦ link-eq (slab.get t) (slab.get s) k (a.others k p other)
    ];
    level_new = level-at (slab.get t) key node a.here ∙ level ∙ ap (λ l. l + 1) (sym (level-at (slab.get s) pk a.old a.old_is));
    level_other = λ k other. elim (cases_eq k pk) [
      | inl e ↦ ap (level_in (slab.get t)) e ∙ level-at (slab.get t) pk a.new a.new_is ∙ a.level ∙ sym (ap (level_in (slab.get s)) e ∙ level-at (slab.get s) pk a.old a.old_is)
      | inr p ↦ level-eq (slab.get t) (slab.get s) k (a.others k p other)
    ];
    absent = child-at (slab.get s) pk label a.old a.old_is ∙ absent;
    level_was = level-none (slab.get s) key a.was;
    fits = let e = level-at (slab.get s) pk a.old a.old_is in omega arith;
    apart = new_apart;
  }

  others_safe : (k : ℕ) → k ≢ key → safe_in (slab.get t) k ≡ safe_in (slab.get s) k
  others_safe k other = elim (cases_eq k pk) [
    | inl e ↦ ap (safe_in (slab.get t)) e ∙ safe-at (slab.get t) pk a.new a.new_is ∙ a.safe ∙ sym (ap (safe_in (slab.get s)) e ∙ safe-at (slab.get s) pk a.old a.old_is)
    | inr p ↦ safe-eq (slab.get t) (slab.get s) k (a.others k p other)
  ]

  pub guarded_joined : (root : ℕ) → IsSound (slab.get s) root → IsGuarded (slab.get s) → (a.old.state.safe ≡ true → node.state.safe ≡ true) → length (keys a.old.children) < 256 → IsGuarded (slab.get t)
  guarded_joined root sound guarded safe few = guarded-grows (slab.get s) (slab.get t) root pk label key grows_joined sound guarded others_safe
      (λ h. safe-at (slab.get t) key node a.here ∙ safe (sym (safe-at (slab.get s) pk a.old a.old_is) ∙ h)) counts
    where
      counts : (k : ℕ) → children_in (slab.get t) k ≤ 256
      counts k = elim (cases_eq k pk) [
        | inl e ↦
            let c = ap (children_in (slab.get t)) e ∙ children-at (slab.get t) pk a.new a.new_is ∙ ap length a.names ∙ length-append (keys a.old.children) (label ∷ []) in
            omega arith
        | inr p ↦ elim (cases_eq k key) [
          | inl e ↦ let c = ap (children_in (slab.get t)) e ∙ children-at (slab.get t) key node a.here ∙ ap (λ es. length (keys_of es)) leaf in omega arith
          | inr q ↦ let c = children-eq (slab.get t) (slab.get s) k (a.others k p q) in let f = guarded.few k in omega arith
        ]
      ]

-- what `attach` does is that, and the child's name is a command besides
abbrev pub joined_of : (s t : Slab Node) (pk : ℕ) (label : Text) (node : Node) (a : Attached s t pk label node) → Joined s t pk label node a.key
joined_of s t pk label node a = record {
  was = a.was;
  here = a.here;
  old = a.old;
  old_is = a.old_is;
  new = a.new;
  new_is = a.new_is;
  parent = a.parent;
  name = a.name;
  level = a.level;
  stands = a.stands;
  safe = ap (λ (v : NodeView). v.safe) a.view;
  depth = ap (λ (v : NodeView). v.depth) a.view;
  names = ap (λ (v : NodeView). v.own.children) a.view;
  gets = a.gets;
  others = a.others;
}

-- what `attach` does to the tree
module _ (s t : Slab Node) (pk : ℕ) (label : Text) (node : Node) (a : Attached s t pk label node)
    (parent : node.parent ≡ Some pk) (name : node.name ≡ label) (leaf : node.children.entries ≡ []) (level : node.level ≡ a.old.level + 1)
    (absent : get bytes_eq a.old.children label ≡ None) (fits : node.level < 2 ^ 64) where
  pub grows_attached : Grows (slab.get s) (slab.get t) pk label a.key
  grows_attached = grows_joined s t pk label node a.key (joined_of s t pk label node a) parent name leaf level absent fits

  pub tree_attached : (root : ℕ) → IsSound (slab.get s) root → (p : Path) → follow (slab.get s) root p ≡ Some pk
      → (q : Path) → tree_in (slab.get t) root q ≡ with_node (with_node (tree_in (slab.get s) root) p (option_map (with_child label) (tree_in (slab.get s) root p))) (p ++ label ∷ []) (Some (view_of node)) q
  tree_attached root sound p at q =
      tree-grows (slab.get s) (slab.get t) root pk label a.key grows_attached sound p at node a.new a.here a.new_is a.others q
      ∙ ap (λ v. with_node (with_node (tree_in (slab.get s) root) p v) (p ++ label ∷ []) (Some (view_of node)) q)
      (sym (ap (option_map (with_child label)) (tree_some (slab.get s) root p pk a.old at a.old_is) ∙ ap Some (sym a.view)))

  pub guarded_attached : (root : ℕ) → IsSound (slab.get s) root → IsGuarded (slab.get s) → (a.old.state.safe ≡ true → node.state.safe ≡ true) → length (keys a.old.children) < 256 → IsGuarded (slab.get t)
  guarded_attached = guarded_joined s t pk label node a.key (joined_of s t pk label node a) parent name leaf level absent fits

-- where room was made, what is seen of the node is as it was
module _ (s r : Slab Node) (pk : ℕ) (up : Node) (same : SameTable s r) (up_is : Some up ≡ slab.get s pk) where
  shaped : option_map shape_of (slab.get r pk) ≡ Some (shape_of up)
  shaped = same pk ∙ sym (ap (option_map shape_of) up_is)

  pub room_there : is_some (slab.get r pk) ≡ true
  room_there = by (slab.get r pk) shaped
    where
      by : (o : Option Node) → option_map shape_of o ≡ Some (shape_of up) → is_some o ≡ true
      by None e = let x : ◌≡◌ {A = Option Shape} None (Some (shape_of up)) = e in cc
      by (Some n) e = refl

  pub room_keeps : (P : Shape → Type 0) → P (shape_of up) → IfSome (slab.get r pk) (λ n. P (shape_of n))
  room_keeps P h = by (slab.get r pk) shaped
    where
      by : (o : Option Node) → option_map shape_of o ≡ Some (shape_of up) → IfSome o (λ n. P (shape_of n))
      by None e = tt
      by (Some n) e = subst P (sym (same_Some _ _ e)) h

pub length_keys : (es : List (Text × ℕ)) → length (keys_of es) ≡ length es
length_keys es = length-map es (λ p. p.0)

-- room was made, and then a node attached: how the table has grown
module _ (s r t : Slab Node) (root pk : ℕ) (name label : Text) (node up : Node) (same : SameTable s r) (a : Attached r t pk label node)
    (up_is : Some up ≡ slab.get s pk) (label_is : label ≡ name) (parent : node.parent ≡ Some pk) (named : node.name ≡ name)
    (leaf : node.children.entries ≡ []) (level : node.level ≡ up.level + 1) (absent : get bytes_eq up.children name ≡ None) (fits : node.level < 2 ^ 64) where
  shape : shape_of a.old ≡ shape_of up
  shape = same_Some _ _ (sym (ap (option_map shape_of) a.old_is) ∙ same pk ∙ sym (ap (option_map shape_of) up_is))

  level-old : node.level ≡ a.old.level + 1
  level-old = level ∙ ap (λ sh. sh.2 + 1) (sym shape)

  absent-old : get bytes_eq a.old.children label ≡ None
  absent-old = (λ i. lookup (bytes_eq (label_is i)) (shape i).3) ∙ absent

  pub grows_created : Grows (slab.get r) (slab.get t) pk label a.key
  grows_created = grows_attached r t pk label node a parent (named ∙ sym label_is) leaf level-old absent-old fits

  module _ (sound : IsSound (slab.get s) root) where
    sound-room : IsSound (slab.get r) root
    sound-room = sound_kept (slab.get s) (slab.get r) same root sound

    pub sound_created : IsSound (slab.get t) root
    sound_created = sound-grows (slab.get r) (slab.get t) root pk label a.key (grows_attached r t pk label node a parent (named ∙ sym label_is) leaf level-old absent-old fits) sound-room

    pub guarded_created : IsGuarded (slab.get s) → (up.state.safe ≡ true → node.state.safe ≡ true) → length (keys up.children) < 256 → IsGuarded (slab.get t)
    guarded_created guarded safe few = guarded_attached r t pk label node a parent (named ∙ sym label_is) leaf level-old absent-old fits root sound-room
        (guarded_kept (slab.get s) (slab.get r) same guarded)
        (λ h. safe (sym (ap (λ (sh : Shape). sh.4.safe) shape) ∙ h))
        (let e = ap (λ (sh : Shape). length (keys_of sh.3)) shape in omega arith)

    pub keys_created : (q : Path) (k : ℕ) → follow (slab.get s) root q ≡ Some k → follow (slab.get t) root q ≡ Some k
    keys_created q k e = then_kept q k (follow_kept (slab.get s) (slab.get r) same q root ∙ e)
      where
        then_kept : (q : Path) (k : ℕ) → follow (slab.get r) root q ≡ Some k → follow (slab.get t) root q ≡ Some k
        then_kept = follow_grown (slab.get r) (slab.get t) root pk label a.key (grows_attached r t pk label node a parent (named ∙ sym label_is) leaf level-old absent-old fits) sound-room

    pub tree_created : (p : Path) → follow (slab.get s) root p ≡ Some pk → (v : NodeView) → view_of node ≡ v → (q : Path)
        → tree_in (slab.get t) root q ≡ grown (tree_in (slab.get s) root) p name v q
    unfolding grown
    tree_created p at v view q =
        tree_attached r t pk label node a parent (named ∙ sym label_is) leaf level-old absent-old fits root sound-room p (follow_kept (slab.get s) (slab.get r) same p root ∙ at) q
        ∙ (λ i. with_node (with_node (trees i) p (option_map (with_child (label_is i)) (trees i p))) (p ++ label_is i ∷ []) (Some (view i)) q)
      where
        trees : tree_in (slab.get r) root ≡ tree_in (slab.get s) root
        trees = λ i q. tree_kept (slab.get s) (slab.get r) same root q i

-- what it does to the tree that a leaf is taken out
module _ (s t : Slab Node) (root : ℕ) (sound : IsSound (slab.get s) root) (key : ℕ) (node : Node) (pk : ℕ) (d : Detached s t key node pk)
    (is : slab.get s key ≡ Some node) (parent : node.parent ≡ Some pk) (leaf : node.children.entries ≡ [])
    (child : child_in (slab.get s) pk node.name ≡ Some key) where
  link : link_in (slab.get s) key ≡ Some (Some (pk, node.name))
  link = link-at (slab.get s) key node is ∙ ap (λ o. Some (option_map (λ j. (j, node.name)) o)) parent

  pub out_apart : pk ≢ key
  out_apart e =
      let l = sound.levels pk node.name key child in
      let m = ap (level_in (slab.get s)) e in
      omega arith

  pub grows_out : Grows (slab.get t) (slab.get s) pk node.name key
  grows_out = record {
    child_new = λ n. child-at (slab.get s) key n node is ∙ ap (lookup (bytes_eq n)) leaf;
    child_was = λ n. child-none (slab.get t) key n d.gone;
    child_parent = λ n.
        let now = child-at (slab.get t) pk n d.new d.new_is ∙ d.gets n in
        let was = child-at (slab.get s) pk n d.old d.old_is in
        elim (text_cases node.name n) [
          | inl w ↦ ap (child_in (slab.get s) pk) (sym w.0) ∙ child ∙ sym (ap (λ b. cond b (Some key) (child_in (slab.get t) pk n)) w.1)
          | inr w ↦
              was ∙ sym (now ∙ ap (λ b. cond b None (get bytes_eq d.old.children n)) w.1)
              ∙ sym (ap (λ b. cond b (Some key) (child_in (slab.get t) pk n)) w.1)
        ];
    child_other = λ k n p q. child-eq (slab.get s) (slab.get t) k n (sym (d.others k p q));
    link_new = link;
    link_was = link-none (slab.get t) key d.gone;
    link_other = λ k other. elim (cases_eq k pk) [
      | inl e ↦
          ap (link_in (slab.get s)) e ∙ link-at (slab.get s) pk d.old d.old_is
          ∙ sym (ap (link_in (slab.get t)) e ∙ link-at (slab.get t) pk d.new d.new_is ∙ (λ i. Some (option_map (λ j. (j, d.name i)) (d.parent i))))
      | inr p ↦ link-eq (slab.get s) (slab.get t) k (sym (d.others k p other))
    ];
    level_new = sound.levels pk node.name key child ∙ ap (λ l. l + 1) (level-at (slab.get s) pk d.old d.old_is ∙ sym (level-at (slab.get t) pk d.new d.new_is ∙ d.level));
    level_other = λ k other. elim (cases_eq k pk) [
      | inl e ↦ ap (level_in (slab.get s)) e ∙ level-at (slab.get s) pk d.old d.old_is ∙ sym (ap (level_in (slab.get t)) e ∙ level-at (slab.get t) pk d.new d.new_is ∙ d.level)
      | inr p ↦ level-eq (slab.get s) (slab.get t) k (sym (d.others k p other))
    ];
    absent = child-at (slab.get t) pk node.name d.new d.new_is ∙ d.gets node.name ∙ ap (λ b. cond b None (get bytes_eq d.old.children node.name)) ((bytes_eq-Decides node.name node.name).1 refl);
    level_was = level-none (slab.get t) key d.gone;
    fits =
        let e = sound.levels pk node.name key child in
        let f = sound.fits key in
        let m = level-at (slab.get s) pk d.old d.old_is ∙ sym (level-at (slab.get t) pk d.new d.new_is ∙ d.level) in
        omega arith;
    apart = out_apart;
  }

  others_kept : (k : ℕ) → k ≢ key → safe_in (slab.get s) k ≡ safe_in (slab.get t) k
  others_kept k other = elim (cases_eq k pk) [
    | inl e ↦ sym (ap (safe_in (slab.get t)) e ∙ safe-at (slab.get t) pk d.new d.new_is ∙ ap (λ (v : NodeView). v.safe) d.view ∙ sym (ap (safe_in (slab.get s)) e ∙ safe-at (slab.get s) pk d.old d.old_is))
    | inr p ↦ sym (safe-eq (slab.get t) (slab.get s) k (d.others k p other))
  ]

  fewer : (k : ℕ) → children_in (slab.get t) k ≤ children_in (slab.get s) k
  fewer k = elim (cases_eq k pk) [
    | inl e ↦
        let now = ap (children_in (slab.get t)) e ∙ children-at (slab.get t) pk d.new d.new_is ∙ ap (λ (v : NodeView). length v.own.children) d.view in
        let was = ap (children_in (slab.get s)) e ∙ children-at (slab.get s) pk d.old d.old_is in
        let less = shorter_removed (bytes_eq node.name) (keys d.old.children) in
        omega arith
    | inr p ↦ elim (cases_eq k key) [
      | inl e ↦ let now = ap (children_in (slab.get t)) e ∙ children-none (slab.get t) key d.gone in omega arith
      | inr q ↦ let c = children-eq (slab.get t) (slab.get s) k (d.others k p q) in omega arith
    ]
  ]

  pub guarded_out : IsGuarded (slab.get s) → IsGuarded (slab.get t)
  guarded_out guarded = guarded-shrinks (slab.get t) (slab.get s) root pk node.name key grows_out sound guarded others_kept fewer

  pub sound_out : IsSound (slab.get t) root
  sound_out = sound-shrinks (slab.get t) (slab.get s) root pk node.name key grows_out sound

  pub keys_out : (q : Path) (k : ℕ) → follow (slab.get s) root q ≡ Some k → k ≢ key → follow (slab.get t) root q ≡ Some k
  keys_out = follow-shrinks (slab.get t) (slab.get s) root pk node.name key grows_out

  -- the path of the node leads through its parent
  module _ (p : Path) (n : Text) (leads : follow (slab.get s) root (p ++ n ∷ []) ≡ Some key) where
    at_parent : (follow (slab.get s) root p ≡ Some pk) × (n ≡ node.name)
    at_parent =
        let l = last_step (slab.get s) root p n key leads in
        let same = same_link l.parent pk n node.name (sym (sound.down l.parent n key l.child) ∙ link) in
        (l.front ∙ ap Some same.0, same.1)

    pub parent_out : follow (slab.get t) root p ≡ Some pk
    parent_out = keys_out p pk at_parent.0 out_apart

    pub tree_out : (q : Path) → tree_in (slab.get t) root q ≡ pruned (tree_in (slab.get s) root) p n q
    unfolding pruned
    tree_out q =
        tree-shrinks (slab.get t) (slab.get s) root pk node.name key grows_out sound_out p parent_out d.new d.new_is d.others q
        ∙ (λ i. with_node (with_node (tree_in (slab.get s) root) p (sym there i)) (p ++ sym at_parent.1 i ∷ []) None q)
      where
        there : option_map (without_child n) (tree_in (slab.get s) root p) ≡ Some (view_of d.new)
        there = ap (option_map (without_child n)) (tree_some (slab.get s) root p pk d.old at_parent.0 d.old_is)
            ∙ ap Some (ap (λ m. without_child m (view_of d.old)) at_parent.1 ∙ sym d.view)

pub above_of : (h : Heap) (k j : ℕ) (node : Node) → h k ≡ Some node → node.parent ≡ Some j → above_at (held_in h k) ≡ Some (j, node.name)
above_of h k j node is parent = link-above h k j node.name (link-at h k node is ∙ ap (λ o. Some (option_map (λ j. (j, node.name)) o)) parent)

-- a node that a path with a name leads to is no root
pub no_parent_is_root : (h : Heap) (root : ℕ) → IsSound h root → (p : Path) (n : Text) (k : ℕ) (node : Node) → follow h root (p ++ n ∷ []) ≡ Some k → h k ≡ Some node → node.parent ≡ None → ⊥
no_parent_is_root h root sound p n k node leads is none =
    let l = last_step h root p n k leads in
    let link : link_in h k ≡ Some None = link-at h k node is ∙ ap (λ o. Some (option_map (λ j. (j, node.name)) o)) none in
    let y : ◌≡◌ {A = Option (Option (ℕ × Text))} (Some (Some (l.parent, n))) (Some None) = sym (sound.down l.parent n k l.child) ∙ link in
    cc

-- a parent is there
pub parent_there : (h : Heap) (root : ℕ) → IsOrdered h root → (k j : ℕ) (node : Node) → h k ≡ Some node → node.parent ≡ Some j → is_some (h j) ≡ true
parent_there h root o k j node is parent = sym (held-some h j) ∙ o.there k j node.name (above_of h k j node is parent)

pub parent_apart : (h : Heap) (root : ℕ) → IsOrdered h root → (k j : ℕ) (node : Node) → h k ≡ Some node → node.parent ≡ Some j → j ≢ k
parent_apart h root o k j node is parent e =
    let l = o.levels k j node.name (above_of h k j node is parent) in
    let m = ap (level_in h) e in
    omega arith

-- a step down to a child
module _ (h : Heap) (root : ℕ) (sound : IsSound h root) (at : ℕ) (node : Node) (n : Text) (c : ℕ) (is : h at ≡ Some node) (found : get bytes_eq node.children n ≡ Some c) where
  child-found : child_in h at n ≡ Some c
  child-found = child-at h at n node is ∙ found

  pub descend_less : 2 ^ 64 - level_in h c < 2 ^ 64 - level_in h at
  descend_less =
      let l = sound.levels at n c child-found in
      let f = sound.fits c in
      omega arith

  pub descend_leads : (p : Path) → follow h root p ≡ Some at → follow h root (p ++ n ∷ []) ≡ Some c
  descend_leads p leads = then_child h root p n at leads ∙ child-found

-- what lies below a leaf is nothing
leaf_child : (h : Heap) (k : ℕ) (n : Text) → IfSome (h k) (λ node. node.children.entries ≡ []) → child_in h k n ≡ None
leaf_child h k n leaf = by (h k) refl leaf
  where
    by : (o : Option Node) → h k ≡ o → IfSome o (λ node. node.children.entries ≡ []) → child_in h k n ≡ None
    by None e l = child-none h k n e
    by (Some node) e l = child-at h k n node e ∙ ap (lookup (bytes_eq n)) l

pub below_leaf : (h : Heap) (root : ℕ) (p : Path) (k : ℕ) (n : Text) (r : Path) → follow h root p ≡ Some k → IfSome (h k) (λ node. node.children.entries ≡ []) → tree_in h root (p ++ n ∷ r) ≡ None
unfolding follow
below_leaf h root p k n r leads leaf =
    tree-none h root (p ++ n ∷ r) (
    follow_append h p (n ∷ r) root
    ∙ ap (option_and_then (λ c. follow h c (n ∷ r))) leads
    ∙ ap (option_and_then (λ c. follow h c r)) (leaf_child h k n leaf)
    )

-- the last of the leaves below a path is the node there
pub deleted_all : (h : Heap) (root : ℕ) (f : Path → Option NodeView) (p : Path) (n : Text) (k : ℕ) → follow h root (p ++ n ∷ []) ≡ Some k → IfSome (h k) (λ node. node.children.entries ≡ [])
    → ((q : Path) → is_above (p ++ n ∷ []) q ≡ false → tree_in h root q ≡ f q) → (q : Path) → pruned (tree_in h root) p n q ≡ deleted f p n q
unfolding pruned deleted with_node
deleted_all h root f p n k leads leaf same q =
    let here = same p (not_above_front p n) in
    let w = path_cases q (p ++ n ∷ []) in
    let v = path_cases q p in
    let not_front = not_above_front p n in
    let moved = ap (λ x. is_above (p ++ n ∷ []) x) {x = q} {y = p} in
    let moved₁ = ap (λ x. is_above (p ++ n ∷ []) x) {x = q} {y = p ++ n ∷ []} in
    let self = above_self (p ++ n ∷ []) in
    let changed : option_map (without_child n) (tree_in h root p) ≡ option_map (without_child n) (f p) = ap (option_map (without_child n)) here in
    elim (above_cases (p ++ n ∷ []) q) [
      | inl b ↦
          let none : q ≢ p ++ n ∷ [] → tree_in h root q ≡ None = λ other. below (p ++ n ∷ []) q k leads leaf b.0 b.1 other in
          let is_true = b.2 in
          grind arith
      | inr outside ↦ let s = same q outside in grind arith
    ]
  where
    below : (a q : Path) (k : ℕ) → follow h root a ≡ Some k → IfSome (h k) (λ node. node.children.entries ≡ []) → (r : Path) → q ≡ a ++ r → q ≢ a → tree_in h root q ≡ None
    below a q k leads leaf [] e other = absurd (other (e ∙ append-nil a))
    below a q k leads leaf (m ∷ r) e other = ap (tree_in h root) e ∙ below_leaf h root a k m r leads leaf

-- a leaf further below was taken away
pub pruned_below : (f g : Path → Option NodeView) (top front : Path) (n : Text) → ((q : Path) → is_above top q ≡ false → f q ≡ g q) → (q : Path) → is_above top q ≡ false → pruned f (top ++ front) n q ≡ g q
unfolding pruned with_node
pruned_below f g top front n same q outside =
    let w = path_cases q ((top ++ front) ++ n ∷ []) in
    let v = path_cases q (top ++ front) in
    let a = above_append top front in
    let b : is_above top ((top ++ front) ++ n ∷ []) ≡ true = ap (is_above top) append_assoc-here ∙ above_append top (front ++ n ∷ []) in
    let s = same q outside in
    let moved = ap (is_above top) {x = q} {y = top ++ front} in
    let moved₁ = ap (is_above top) {x = q} {y = (top ++ front) ++ n ∷ []} in
    grind arith
  where
    append_assoc-here : (top ++ front) ++ n ∷ [] ≡ top ++ (front ++ n ∷ [])
    append_assoc-here = append_assoc top front (n ∷ [])

not_both : (b : Bool) → b ≡ true → b ≡ false → Prim.⊥
not_both b t f = let x : true ≡ false = sym t ∙ f in cc

-- what isn't below a path has another key than what is
pub outside_apart : (h : Heap) (root : ℕ) → IsSound h root → (a x q : Path) (k leaf : ℕ) → follow h root (a ++ x) ≡ Some leaf → is_above a q ≡ false → follow h root q ≡ Some k → k ≢ leaf
outside_apart h root sound a x q k leaf leads outside at same =
    let is : q ≡ a ++ x = one_path h root sound q (a ++ x) k at (leads ∙ ap Some (sym same)) in
    not_both (is_above a q) (ap (is_above a) is ∙ above_append a x) outside
