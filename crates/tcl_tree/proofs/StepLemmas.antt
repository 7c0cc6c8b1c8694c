-- Lemmas on the steps of the table's functions.
use Rattle.std.proofs.Common.{◌^◌, ◌≡◌, ℕ, ◌+◌, ◌<◌, ◌≤◌, Bool, true, false, List, [], ◌∷◌, ◌++◌, length, drop, get_or, refl, sym, ◌∙◌, ap, inl, inr, arith, zero, suc, length-append, Option, Some, None}
use Rattle.std.specs.Prelude.{◌≢◌, MatchOption, OnSome, slice_index_or, is_some, IfNone}
use Rattle.std.specs.Option.{option_and_then, option_map, option_map_or}
use Rattle.std.specs.Str.{bytes_eq}
use Rattle.std.proofs.lemmas.List.{drop_more, drop_all}
use Rattle.std.proofs.lemmas.Bool.{cases_eq}
use Rattle.indexmap.specs.IndexMap.{get, keys}
use Rattle.std.proofs.lemmas.Option.{MatchOption-at_some, MatchOption-at_none, same_Some}
use Rattle.std.specs.Prelude.{Result, Ok, Err, OnErr, IfSome, ⊤}
use Rattle.std.specs.Map.{lookup, keys_of}
use Rattle.slab.specs.Slab as slab
use Rattle.slab.specs.Slab.{Slab}
use Rattle.tcl_interpreter.specs.Paths.{Text, Path, is_above, ancestor, with_node}
use Rattle.tcl_tree.specs.Nodes.{Heap, NodeView, view_of, state_view, full_of, full_up, charged, charged_below, child_in, follow, tree_in, link_of, link_in, level_in, safe_in, children_in, place_of, IsSound, IsGuarded}
use Rattle.tcl_tree.specs.TreeOf.{alone}
use Rattle.tcl_interpreter.specs.declared.node.Node.{Node}
use Rattle.tcl_interpreter.specs.declared.node.State.{State}
use Rattle.tcl_interpreter.specs.declared.node.Meter.{Meter}
use Rattle.tcl_interpreter.specs.declared.node.Meter.TheVariants.{Steps, Levels, Back}
use Rattle.tcl_interpreter.proofs.PathLemmas.{path_cases, ends_cases, ancestor_length, ancestor_front, ancestor_above, above_same, test_cases, above_fits}
use Rattle.slab.proofs.SlabLemmas.{Updates-with_value}
use Rattle.tcl_tree.proofs.HeapLemmas.{follow-nil, same_link, last_step, tree-at, tree-none, SamePlace, sound-same, guarded-same, follow-same, level-same, child-same, at_each, tree-same, then_child, linked}
use Rattle.tcl_tree.specs.Held.{held_by, held_in}

pub child-at : (h : Heap) (k : ℕ) (n : Text) (node : Node) → h k ≡ Some node → child_in h k n ≡ get bytes_eq node.children n
unfolding child_in
child-at h k n node e = ap (option_and_then (λ node. get bytes_eq node.children n)) e

pub child-eq : (h h₁ : Heap) (k : ℕ) (n : Text) → h k ≡ h₁ k → child_in h k n ≡ child_in h₁ k n
unfolding child_in
child-eq h h₁ k n e = ap (option_and_then (λ node. get bytes_eq node.children n)) e

pub link-at : (h : Heap) (k : ℕ) (node : Node) → h k ≡ Some node → link_in h k ≡ Some (link_of node)
unfolding link_in
link-at h k node e = ap (option_map link_of) e

pub link-none : (h : Heap) (k : ℕ) → h k ≡ None → link_in h k ≡ None
unfolding link_in
link-none h k e = ap (option_map link_of) e

pub link-eq : (h h₁ : Heap) (k : ℕ) → h k ≡ h₁ k → link_in h k ≡ link_in h₁ k
unfolding link_in
link-eq h h₁ k e = ap (option_map link_of) e

pub level-at : (h : Heap) (k : ℕ) (node : Node) → h k ≡ Some node → level_in h k ≡ node.level
unfolding level_in
level-at h k node e = ap (λ o. option_map_or (λ (node : Node). node.level) o 0) e

pub level-none : (h : Heap) (k : ℕ) → h k ≡ None → level_in h k ≡ 0
unfolding level_in
level-none h k e = ap (λ o. option_map_or (λ (node : Node). node.level) o 0) e

pub level-eq : (h h₁ : Heap) (k : ℕ) → h k ≡ h₁ k → level_in h k ≡ level_in h₁ k
unfolding level_in
level-eq h h₁ k e = ap (λ o. option_map_or (λ (node : Node). node.level) o 0) e

pub safe-at : (h : Heap) (k : ℕ) (node : Node) → h k ≡ Some node → safe_in h k ≡ node.state.safe
unfolding safe_in
safe-at h k node e = ap (λ o. option_map_or (λ (node : Node). node.state.safe) o false) e

pub children-at : (h : Heap) (k : ℕ) (node : Node) → h k ≡ Some node → children_in h k ≡ length (keys node.children)
unfolding children_in
children-at h k node e = ap (λ o. option_map_or (λ (node : Node). length (keys node.children)) o 0) e

pub children-none : (h : Heap) (k : ℕ) → h k ≡ None → children_in h k ≡ 0
unfolding children_in
children-none h k e = ap (λ o. option_map_or (λ (node : Node). length (keys node.children)) o 0) e

pub safe-eq : (h h₁ : Heap) (k : ℕ) → h k ≡ h₁ k → safe_in h k ≡ safe_in h₁ k
unfolding safe_in
safe-eq h h₁ k e = ap (λ o. option_map_or (λ (node : Node). node.state.safe) o false) e

pub children-eq : (h h₁ : Heap) (k : ℕ) → h k ≡ h₁ k → children_in h k ≡ children_in h₁ k
unfolding children_in
children-eq h h₁ k e = ap (λ o. option_map_or (λ (node : Node). length (keys node.children)) o 0) e

pub child-none : (h : Heap) (k : ℕ) (n : Text) → h k ≡ None → child_in h k n ≡ None
unfolding child_in
child-none h k n e = ap (option_and_then (λ node. get bytes_eq node.children n)) e

follow-next : (h : Heap) (k : ℕ) (p : Path) (i : ℕ) (n : Text) → i < length p → n ≡ get_or p i n → follow h k (drop i p) ≡ option_and_then (λ c. follow h c (drop (i + 1) p)) (child_in h k n)
unfolding follow
follow-next h k p i n l e = ap (follow h k) (drop_more p i n l) ∙ ap (λ m. follow h k (m ∷ drop (i + 1) p)) (sym e)

pub follow_end : (h : Heap) (k : ℕ) (p : Path) (i : ℕ) → length p ≤ i → follow h k (drop i p) ≡ Some k
follow_end h k p i l = ap (follow h k) (drop_all i p l) ∙ follow-nil h k

pub follow_vacant : (h : Heap) (k : ℕ) (p : Path) (i : ℕ) (n : Text) → i < length p → n ≡ get_or p i n → None ≡ h k → follow h k (drop i p) ≡ None
follow_vacant h k p i n l r e = follow-next h k p i n l r ∙ ap (option_and_then (λ c. follow h c (drop (i + 1) p))) (child-none h k n (sym e))

pub follow_absent : (h : Heap) (k : ℕ) (p : Path) (i : ℕ) (n : Text) (node : Node) → i < length p → n ≡ get_or p i n → Some node ≡ h k → None ≡ get bytes_eq node.children n → follow h k (drop i p) ≡ None
follow_absent h k p i n node l r e f = follow-next h k p i n l r ∙ ap (option_and_then (λ c. follow h c (drop (i + 1) p))) (child-at h k n node (sym e) ∙ sym f)

pub follow_down : (h : Heap) (k : ℕ) (p : Path) (i : ℕ) (n : Text) (node : Node) (c : ℕ) → i < length p → n ≡ get_or p i n → Some node ≡ h k → Some c ≡ get bytes_eq node.children n → follow h k (drop i p) ≡ follow h c (drop (i + 1) p)
follow_down h k p i n node c l r e f = follow-next h k p i n l r ∙ ap (option_and_then (λ c. follow h c (drop (i + 1) p))) (child-at h k n node (sym e) ∙ sym f)

abbrev slots_none : List (Option Node)
slots_none = []

-- nothing stands in a slab with no slots
pub vacant_slots : (s : Slab Node) → s.slots ≡ [] → (k : ℕ) → slab.get s k ≡ None
vacant_slots s e k = ap (λ l. slice_index_or l k None) e ∙ by k
  where
    by : (k : ℕ) → slice_index_or (slots_none) k None ≡ None
    by zero = refl
    by (suc k) = refl

-- a table with one node
module _ (h : Heap) (root : ℕ) (node : Node) (is : h root ≡ Some node) (parent : node.parent ≡ None) (fits : node.level < 2 ^ 64) (leaf : node.children.entries ≡ [])
    (rest : (k : ℕ) → k ≢ root → h k ≡ None) where
  pub no-child : (k : ℕ) (n : Text) → child_in h k n ≡ None
  no-child k n = elim (cases_eq k root) [
    | inl e ↦ ap (λ j. child_in h j n) e ∙ child-at h root n node is ∙ ap (lookup (bytes_eq n)) leaf
    | inr other ↦ child-none h k n (rest k other)
  ]

  pub top-link : link_in h root ≡ Some None
  unfolding link_in
  top-link = ap (option_map link_of) is ∙ ap (λ o. Some (option_map (λ k. (k, node.name)) o)) parent

  pub no-link : (k : ℕ) → k ≢ root → link_in h k ≡ None
  unfolding link_in
  no-link k other = ap (option_map link_of) (rest k other)

  pub sound-single : IsSound h root
  sound-single = record {
    top = top-link;
    down = λ k n c e. let w = no-child k n in cc;
    alone = λ c e. elim (cases_eq c root) [
      | inl same ↦ same
      | inr other ↦ let x : None ≡ Some None = sym (no-link c other) ∙ e in cc
    ];
    levels = λ k n c e. let w = no-child k n in cc;
    fits = λ k. elim (cases_eq k root) [
      | inl same ↦ let e = ap (level_in h) same ∙ level-at h root node is in omega arith
      | inr other ↦ let e = level-none h k (rest k other) in omega arith
    ];
  }

  pub guarded-single : IsGuarded h
  guarded-single = record {
    safe = λ k n c e f. let w = no-child k n in cc;
    few = λ k. elim (cases_eq k root) [
      | inl same ↦ let e = ap (children_in h) same ∙ children-at h root node is ∙ ap (λ es. length (keys_of es)) leaf in omega arith
      | inr other ↦ let e = children-none h k (rest k other) in omega arith
    ];
  }

  pub tree-single : (q : Path) → tree_in h root q ≡ alone (view_of node) q
  unfolding follow
  tree-single [] = tree-at h root [] root (follow-nil h root) ∙ ap (option_map view_of) is
  tree-single (n ∷ q) = tree-none h root (n ∷ q) (ap (option_and_then (λ c. follow h c q)) (no-child root n))

-- the tree where a node is at a path
pub tree_some : (h : Heap) (root : ℕ) (p : Path) (k : ℕ) (node : Node) → follow h root p ≡ Some k → h k ≡ Some node → tree_in h root p ≡ Some (view_of node)
tree_some h root p k node at is = tree-at h root p k at ∙ ap (option_map view_of) is

pub tree_vacant : (h : Heap) (root : ℕ) (p : Path) (k : ℕ) → follow h root p ≡ Some k → h k ≡ None → tree_in h root p ≡ None
tree_vacant h root p k at is = tree-at h root p k at ∙ ap (option_map view_of) is

-- a change of the node at a path where there is none
pub change_absent : (f : Path → Option NodeView) (p : Path) (g : NodeView → NodeView) → f p ≡ None → (q : Path) → f q ≡ with_node f p (option_map g (f p)) q
unfolding with_node
change_absent f p g none q =
    let c = path_cases q p in
    let m = ap f {x = q} {y = p} in
    let o = ap (option_map g) none in
    grind arith

module _ (s : Slab Node) (root : ℕ) (sound : IsSound (slab.get s) root) (p : Path) (k : ℕ) (at : follow (slab.get s) root p ≡ Some k)
    (old new : Node) (is : slab.get s k ≡ Some old) (same : SamePlace old new) where
  updates-write : slab.Updates s (slab.with_value s k new) k (Some new)
  updates-write = Updates-with_value s k new (ap is_some is)

  pub sound_write : IsSound (slab.get (slab.with_value s k new)) root
  sound_write = sound-same (slab.get s) (slab.get (slab.with_value s k new)) k old new is updates-write.changed same updates-write.others root sound

  pub guarded_write : IsGuarded (slab.get s) → IsGuarded (slab.get (slab.with_value s k new))
  guarded_write = guarded-same (slab.get s) (slab.get (slab.with_value s k new)) k old new is updates-write.changed same updates-write.others

  pub follow_write : (q : Path) → follow (slab.get (slab.with_value s k new)) root q ≡ follow (slab.get s) root q
  follow_write q = follow-same (slab.get s) (slab.get (slab.with_value s k new)) k old new is updates-write.changed same updates-write.others q root

  pub level_write : (j : ℕ) → level_in (slab.get (slab.with_value s k new)) j ≡ level_in (slab.get s) j
  level_write = level-same (slab.get s) (slab.get (slab.with_value s k new)) k old new is updates-write.changed same updates-write.others

  pub tree_write : (g : NodeView → NodeView) → g (view_of old) ≡ view_of new → (q : Path)
      → tree_in (slab.get (slab.with_value s k new)) root q ≡ with_node (tree_in (slab.get s) root) p (option_map g (tree_in (slab.get s) root p)) q
  tree_write g e q =
      tree-same (slab.get s) (slab.get (slab.with_value s k new)) k old new is updates-write.changed same updates-write.others root sound p at q
      ∙ ap (λ v. with_node (tree_in (slab.get s) root) p v q) (sym (ap (option_map g) (tree_some (slab.get s) root p k old at is) ∙ ap Some e))

-- a write at a key, of which nothing but its place is looked at
module _ (s : Slab Node) (k : ℕ) (old new : Node) (is : slab.get s k ≡ Some old) (same : SamePlace old new) where
  written : slab.Updates s (slab.with_value s k new) k (Some new)
  written = Updates-with_value s k new (ap is_some is)

  pub others_write : (j : ℕ) → j ≢ k → slab.get (slab.with_value s k new) j ≡ slab.get s j
  others_write = written.others

  pub place_write : (j : ℕ) → option_map place_of (slab.get (slab.with_value s k new) j) ≡ option_map place_of (slab.get s j)
  place_write = at_each (slab.get s) (slab.get (slab.with_value s k new)) k old new is written.changed same written.others (option_map place_of)
      (λ i. Some (same.parent i, same.name i, same.level i, same.children i, same.safe i, same.gone i))

  pub child_write : (j : ℕ) (n : Text) → child_in (slab.get (slab.with_value s k new)) j n ≡ child_in (slab.get s) j n
  child_write = child-same (slab.get s) (slab.get (slab.with_value s k new)) k old new is written.changed same written.others

  pub levels_write : (j : ℕ) → level_in (slab.get (slab.with_value s k new)) j ≡ level_in (slab.get s) j
  levels_write = level-same (slab.get s) (slab.get (slab.with_value s k new)) k old new is written.changed same written.others

  -- and its depth
  module _ (depth : new.state.depth ≡ old.state.depth) where
    pub held_write : (j : ℕ) → held_in (slab.get (slab.with_value s k new)) j ≡ held_in (slab.get s) j
    unfolding held_in
    held_write = at_each (slab.get s) (slab.get (slab.with_value s k new)) k old new is written.changed same written.others (option_map held_by)
        (λ i. Some (record { above = option_map (λ j. (j, same.name i)) (same.parent i); depth = depth i; gone = same.gone i }))

pub at_some : {T : Type 0} (o : Option T) (P : T → Type 0) (x : T) → o ≡ Some x → IfSome o P → P x
at_some o P x e h = MatchOption-at_some ⊤ P x e h

pub at_none : {T : Type 0} (o : Option T) (P : Type 0) → o ≡ None → IfNone o P → P
at_none None P e h = h
at_none (Some x) P e h = absurd (cc)

pub none_of : {T : Type 0} (o : Option T) → is_some o ≡ false → o ≡ None
none_of None e = refl
none_of (Some x) e = let y : true ≡ false = e in cc

pub some_of : {T : Type 0} (o : Option T) (b : Bool) → b ≡ is_some o → b ≡ true → is_some o ≡ true
some_of o b e t = sym e ∙ t

pub some_there : (o : Option Node) → o ≢ None → is_some (option_map view_of o) ≡ true
some_there None h = absurd (h refl)
some_there (Some x) h = refl

-- where a node has a child of the name, the tree has a node there; and else none
pub tree_child : (h : Heap) (root : ℕ) (p : Path) (k : ℕ) (n : Text) (node : Node) → IsSound h root → follow h root p ≡ Some k → h k ≡ Some node → is_some (get bytes_eq node.children n) ≡ true → is_some (tree_in h root (p ++ n ∷ [])) ≡ true
tree_child h root p k n node sound at is found = by (get bytes_eq node.children n) refl found
  where
    by : (o : Option ℕ) → get bytes_eq node.children n ≡ o → is_some o ≡ true → is_some (tree_in h root (p ++ n ∷ [])) ≡ true
    by None e f = let x : false ≡ true = f in cc
    by (Some c) e f =
        let there = then_child h root p n k at ∙ child-at h k n node is ∙ e in
        ap is_some (tree-at h root (p ++ n ∷ []) c there) ∙ some_there (h c) (λ none. linked h root sound (p ++ n ∷ []) c there (link-none h c none))

pub tree_no_child : (h : Heap) (root : ℕ) (p : Path) (k : ℕ) (n : Text) (node : Node) → follow h root p ≡ Some k → h k ≡ Some node → get bytes_eq node.children n ≡ None → tree_in h root (p ++ n ∷ []) ≡ None
tree_no_child h root p k n node at is absent = tree-none h root (p ++ n ∷ []) (then_child h root p n k at ∙ child-at h k n node is ∙ absent)

pub on_err : {T E P : Type 0} (r : Result T E) → P → OnErr r P
on_err (Ok x) h = tt
on_err (Err e) h = h

-- where a node has a parent, the path above it leads there
pub record Up (h : Heap) (root : ℕ) (p : Path) (level at k : ℕ) : Type 0 where
  pub within : level < length p
  pub leads : follow h root (ancestor p (level + 1)) ≡ Some k
  pub lower : level_in h at ≡ level_in h k + 1

pub climb_up : (h : Heap) (root : ℕ) → IsSound h root → (p : Path) (level at : ℕ) (node : Node) (k : ℕ) → level ≤ length p → follow h root (ancestor p level) ≡ Some at → h at ≡ Some node → node.parent ≡ Some k → Up h root p level at k
climb_up h root sound p level at node k within leads is parent =
    let link : link_in h at ≡ Some (Some (k, node.name)) = link-at h at node is ∙ ap (λ o. Some (option_map (λ j. (j, node.name)) o)) parent in
    elim (ends_cases (ancestor p level)) [
      | inl none ↦
          let x : Some root ≡ Some at = sym (follow-nil h root) ∙ ap (follow h root) (sym none) ∙ leads in
          let t = ap (link_in h) (sym (same_Some _ _ x)) ∙ sound.top in
          let y : ◌≡◌ {A = Option (Option (ℕ × Text))} (Some (Some (k, node.name))) (Some None) = sym link ∙ t in
          cc
      | inr w ↦
          let l = last_step h root w.front w.last at (ap (follow h root) (sym w.is) ∙ leads) in
          let same = same_link l.parent k w.last node.name (sym (sound.down l.parent w.last at l.child) ∙ link) in
          let length_is = ancestor_length p level within in
          let length_w = ap length w.is ∙ length-append w.front (w.last ∷ []) in
          let short : level < length p = omega arith in
          record {
            within = short;
            leads = ap (follow h root) (ancestor_front p level w.front w.last short w.is) ∙ l.front ∙ ap Some same.0;
            lower = sound.levels l.parent w.last at l.child ∙ ap (λ j. level_in h j + 1) same.0;
          }
    ]

-- and the path's last name is the node's
pub climb_name : (h : Heap) (root : ℕ) → IsSound h root → (p : Path) (level at : ℕ) (node : Node) (k : ℕ) → level ≤ length p → follow h root (ancestor p level) ≡ Some at → h at ≡ Some node → node.parent ≡ Some k → ancestor p level ≡ ancestor p (level + 1) ++ node.name ∷ []
climb_name h root sound p level at node k within leads is parent =
    let link : link_in h at ≡ Some (Some (k, node.name)) = link-at h at node is ∙ ap (λ o. Some (option_map (λ j. (j, node.name)) o)) parent in
    elim (ends_cases (ancestor p level)) [
      | inl none ↦
          let x : Some root ≡ Some at = sym (follow-nil h root) ∙ ap (follow h root) (sym none) ∙ leads in
          let t = ap (link_in h) (sym (same_Some _ _ x)) ∙ sound.top in
          let y : ◌≡◌ {A = Option (Option (ℕ × Text))} (Some (Some (k, node.name))) (Some None) = sym link ∙ t in
          cc
      | inr w ↦
          let l = last_step h root w.front w.last at (ap (follow h root) (sym w.is) ∙ leads) in
          let same = same_link l.parent k w.last node.name (sym (sound.down l.parent w.last at l.child) ∙ link) in
          let length_is = ancestor_length p level within in
          let length_w = ap length w.is ∙ length-append w.front (w.last ∷ []) in
          let short : level < length p = omega arith in
          w.is ∙ ap (λ f. f ++ w.last ∷ []) (sym (ancestor_front p level w.front w.last short w.is)) ∙ ap (λ x. ancestor p (level + 1) ++ x ∷ []) same.1
    ]

pub climb_end : (h : Heap) (root : ℕ) → IsSound h root → (p : Path) (level at : ℕ) (node : Node) → level ≤ length p → follow h root (ancestor p level) ≡ Some at → h at ≡ Some node → node.parent ≡ None → level ≡ length p
climb_end h root sound p level at node within leads is parent =
    let link : link_in h at ≡ Some None = link-at h at node is ∙ ap (λ o. Some (option_map (λ j. (j, node.name)) o)) parent in
    elim (ends_cases (ancestor p level)) [
      | inl none ↦ let l = ap length none in let m = ancestor_length p level within in omega arith
      | inr w ↦
          let l = last_step h root w.front w.last at (ap (follow h root) (sym w.is) ∙ leads) in
          let y : ◌≡◌ {A = Option (Option (ℕ × Text))} (Some (Some (l.parent, w.last))) (Some None) = sym (sound.down l.parent w.last at l.child) ∙ link in
          cc
    ]

pub full_at_is : (full : NodeView → Bool) (h : Heap) (root : ℕ) (p : Path) (level at : ℕ) (node : Node) → follow h root (ancestor p level) ≡ Some at → h at ≡ Some node → full_up full (tree_in h root) p level ≡ full (view_of node)
unfolding full_up
full_at_is full h root p level at node leads is = ap (λ o. option_map_or full o false) (tree_some h root (ancestor p level) at node leads is)

pub leads_somewhere : (h : Heap) (root : ℕ) → IsSound h root → (p : Path) (k : ℕ) → follow h root p ≡ Some k → h k ≢ None
leads_somewhere h root sound p k leads none = linked h root sound p k leads (link-none h k none)

-- one more of the nodes above a path is charged
pub charge_more : (once : NodeView → NodeView) (f : Path → Option NodeView) (p : Path) (count : ℕ) → count ≤ length p → (q : Path)
    → with_node (charged_below once f p count) (ancestor p count) (option_map once (charged_below once f p count (ancestor p count))) q ≡ charged_below once f p (count + 1) q
unfolding with_node charged_below
charge_more once f p count within q =
    let w = path_cases q (ancestor p count) in
    let moved = ap f {x = q} {y = ancestor p count} in
    let above = ancestor_above p count in
    let size = ancestor_length p count within in
    let same = above_same p q count in
    let tests = test_cases (length p) (length q + count) in
    let tests₁ = test_cases (length p) (length q + (count + 1)) in
    let tests₂ = test_cases (length p) (length (ancestor p count) + count) in
    let lengths = ap length {x = q} {y = ancestor p count} in
    let aboves = ap (λ x. is_above x p) {x = q} {y = ancestor p count} in
    grind arith

-- none of them is yet
pub charge_none : (once : NodeView → NodeView) (f : Path → Option NodeView) (p q : Path) → f q ≡ charged_below once f p 0 q
unfolding charged_below
charge_none once f p q =
    let fits = above_fits q p in
    let tests = test_cases (length p) (length q + 0) in
    grind arith

-- all are
pub charge_all : (once : NodeView → NodeView) (f : Path → Option NodeView) (p q : Path) → charged_below once f p (length p + 1) q ≡ charged once f p q
unfolding charged_below charged
charge_all once f p q =
    let fits = above_fits q p in
    let tests = test_cases (length p) (length q + (length p + 1)) in
    grind arith

-- the next to be charged is as it was
pub charge_next : (once : NodeView → NodeView) (f : Path → Option NodeView) (p : Path) (count : ℕ) → count ≤ length p → charged_below once f p count (ancestor p count) ≡ f (ancestor p count)
unfolding charged_below
charge_next once f p count within =
    let size = ancestor_length p count within in
    let tests = test_cases (length p) (length (ancestor p count) + count) in
    grind arith

-- a turn of the climb that charges
module _ (s : Slab Node) (root : ℕ) (sound : IsSound (slab.get s) root) (p : Path) (count at : ℕ) (within : count ≤ length p)
    (leads : follow (slab.get s) root (ancestor p count) ≡ Some at) (old new : Node) (is : slab.get s at ≡ Some old) (same : SamePlace old new)
    (once : NodeView → NodeView) (f : Path → Option NodeView) (tree : (q : Path) → tree_in (slab.get s) root q ≡ charged_below once f p count q) where
  pub charge_tree : once (view_of old) ≡ view_of new → (q : Path) → tree_in (slab.get (slab.with_value s at new)) root q ≡ charged_below once f p (count + 1) q
  charge_tree e q =
      tree_write s root sound (ancestor p count) at leads old new is same once e q
      ∙ (λ i. with_node (trees i) (ancestor p count) (option_map once (trees i (ancestor p count))) q)
      ∙ charge_more once f p count within q
    where
      trees : tree_in (slab.get s) root ≡ charged_below once f p count
      trees = λ i q. tree q i

  pub charge_leads : MatchOption old.parent (count + 1 ≡ length p + 1) (λ k. (count + 1 ≤ length p) × (follow (slab.get (slab.with_value s at new)) root (ancestor p (count + 1)) ≡ Some k))
  charge_leads = by old.parent refl
    where
      by : (o : Option ℕ) → old.parent ≡ o → MatchOption o (count + 1 ≡ length p + 1) (λ k. (count + 1 ≤ length p) × (follow (slab.get (slab.with_value s at new)) root (ancestor p (count + 1)) ≡ Some k))
      by None e = let end = climb_end (slab.get s) root sound p count at old within leads is e in omega arith
      by (Some k) e =
          let up = climb_up (slab.get s) root sound p count at old k within leads is e in
          let w = up.within in
          (omega arith, follow_write s root sound (ancestor p count) at leads old new is same (ancestor p (count + 1)) ∙ up.leads)

  pub charge_smaller : option_map_or (λ k. level_in (slab.get (slab.with_value s at new)) k + 1) old.parent 0 < level_in (slab.get s) at + 1
  charge_smaller = by old.parent refl
    where
      by : (o : Option ℕ) → old.parent ≡ o → option_map_or (λ k. level_in (slab.get (slab.with_value s at new)) k + 1) o 0 < level_in (slab.get s) at + 1
      by None e = omega arith
      by (Some k) e =
          let up = climb_up (slab.get s) root sound p count at old k within leads is e in
          let l = up.lower in
          let m = level_write s root sound (ancestor p count) at leads old new is same k in
          omega arith

  pub charge_fits : (full : NodeView → Bool) → ((m : ℕ) → m ≤ length p → full_up full f p m ≡ false) → full (view_of old) ≡ false
  unfolding full_up
  charge_fits full room =
      let here = ap (λ o. option_map_or full o false) (sym (charge_next once f p count within) ∙ sym (tree (ancestor p count)) ∙ tree_some (slab.get s) root (ancestor p count) at old leads is) in
      sym here ∙ room count within

pub at_next : (o : Option ℕ) (P : Type 0) (Q : ℕ → Type 0) (k : ℕ) → o ≡ Some k → MatchOption o P Q → Q k
at_next o P Q k e h = MatchOption-at_some P Q k e h

pub at_end : (o : Option ℕ) (P : Type 0) (Q : ℕ → Type 0) → o ≡ None → MatchOption o P Q → P
at_end o P Q e h = MatchOption-at_none P Q e h

-- whether a meter is full does not depend on the children
pub full_any : (m : Meter) (s : State) (cs ds : List Text) → full_of m (state_view s cs) ≡ full_of m (state_view s ds)
full_any Steps s cs ds = refl
full_any Levels s cs ds = refl
full_any Back s cs ds = refl

pub follow_append : (h : Heap) (p r : Path) (k : ℕ) → follow h k (p ++ r) ≡ option_and_then (λ c. follow h c r) (follow h k p)
unfolding follow
follow_append h [] r k = refl
follow_append h (n ∷ p) r k = by (child_in h k n) (λ c. follow_append h p r c)
  where
    by : (o : Option ℕ) → ((c : ℕ) → follow h c (p ++ r) ≡ option_and_then (λ d. follow h d r) (follow h c p))
        → option_and_then (λ c. follow h c (p ++ r)) o ≡ option_and_then (λ c. follow h c r) (option_and_then (λ c. follow h c p) o)
    by None ih = refl
    by (Some c) ih = ih c

pub on_some : {T P : Type 0} (o : Option T) → P → OnSome o P
on_some None h = tt
on_some (Some x) h = h
