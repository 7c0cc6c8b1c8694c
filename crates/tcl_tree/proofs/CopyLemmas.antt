-- What stands at a key and below it, copied into a table of its own.
use Rattle.std.proofs.Common.{◌≡◌, ℕ, zero, suc, ◌+◌, ◌-◌, ◌^◌, ◌<◌, ◌≤◌, List, [], ◌∷◌, ◌++◌, true, cond, drop, take, length, length-append, refl, sym, ◌∙◌, ap, subst, inl, inr, arith, Option, Some, None}
use Rattle.std.specs.Prelude.{◌≢◌, ◌⊎◌, slice_get}
use Rattle.std.specs.Str.{bytes_eq}
use Rattle.std.specs.List.{IsDistinct}
use Rattle.std.specs.Map.{keys_of, lookup}
use Rattle.std.specs.Option.{option_and_then, option_map, option_map_or}
use Rattle.std.proofs.lemmas.Bool.{cases_eq}
use Rattle.std.proofs.lemmas.Option.{same_Some, slice_get_within}
use Rattle.std.proofs.lemmas.Slice.Eq.{bytes_eq-Decides}
use Rattle.indexmap.specs.IndexMap.{get, keys}
use Rattle.slab.specs.Slab as slab
use Rattle.slab.specs.Slab.{Slab}
use Rattle.tcl_interpreter.specs.Paths.{Text, Path}
use Rattle.tcl_tree.specs.Nodes.{Heap, NodeView, state_view, view_of, child_in, follow, tree_in, level_in, safe_in, children_in, IsSound, IsGuarded}
use Rattle.tcl_interpreter.specs.Copying.{IsBare}
use Rattle.tcl_tree.specs.Copying.{IsLike, IsWhole, Adds, IsPart, IsCopy, IsPair, IsListed, IsWalk, left_of}
use Rattle.tcl_tree.specs.Walking.{entries_in, sum_of, weight}
use Rattle.tcl_interpreter.specs.declared.node.Node.{Node}
use Rattle.tcl_interpreter.specs.declared.node.State.{State}
use Rattle.tcl_interpreter.proofs.Outcomes.{clash}
use Rattle.tcl_tree.specs.Held.{held_in, depth_at, IsOrdered}
use Rattle.tcl_tree.proofs.HeldLemmas.{held-at, held-eq, held-none, link-above, follow_stands, follow_there}
use Rattle.tcl_tree.proofs.PartingLemmas.{ordered_grown, ordered_single}
use Rattle.tcl_tree.proofs.HeapLemmas.{Grows, follow-nil, then_child, one_path, sound-grows, follow_grown, follow-shrinks}
use Rattle.tcl_tree.proofs.StepLemmas.{child-at, link-none, level-at, safe-at, children-at, children-none, children-eq, follow_append, sound-single, guarded-single}
use Rattle.tcl_tree.proofs.MakeLemmas.{grows_joined, guarded_joined}
use Rattle.tcl_interpreter.proofs.SameLemmas.{name_at, names_length}
use Rattle.tcl_tree.proofs.ComparingLemmas.{top_at, below_child, below_none, missing, found}
use Rattle.tcl_tree.proofs.WalkLemmas.{from_place, weight_step, child_is, not_yet}

-- ## Lists of keys

pub listed_left : (xs ys : List (ℕ × ℕ)) (k t : ℕ) → IsListed xs k t → IsListed (xs ++ ys) k t
listed_left [] ys k t w = absurd w
listed_left (x ∷ xs) ys k t (inl e) = inl e
listed_left (x ∷ xs) ys k t (inr w) = inr (listed_left xs ys k t w)

pub listed_right : (xs ys : List (ℕ × ℕ)) (k t : ℕ) → IsListed ys k t → IsListed (xs ++ ys) k t
listed_right [] ys k t w = w
listed_right (x ∷ xs) ys k t w = inr (listed_right xs ys k t w)

pub listed_cases : (xs ys : List (ℕ × ℕ)) (k t : ℕ) → IsListed (xs ++ ys) k t → IsListed xs k t ⊎ IsListed ys k t
listed_cases [] ys k t w = inr w
listed_cases (x ∷ xs) ys k t (inl e) = inl (inl e)
listed_cases (x ∷ xs) ys k t (inr w) = elim (listed_cases xs ys k t w) [
  | inl v ↦ inl (inr v)
  | inr v ↦ inr v
]

left_append : (h g : Heap) (xs ys : List (ℕ × ℕ)) → left_of h g (xs ++ ys) ≡ left_of h g xs + left_of h g ys
left_append h g [] ys = omega arith
left_append h g (x ∷ xs) ys = let e = left_append h g xs ys in omega (arith, e)

-- one key less is listed
pub less_listed : (h g : Heap) (xs : List (ℕ × ℕ)) (x : ℕ × ℕ) → left_of h g xs < left_of h g (xs ++ x ∷ [])
less_listed h g xs x = let e = left_append h g xs (x ∷ []) in omega (arith, e)

-- ## Names

take_more : (xs : List Text) (i : ℕ) (n : Text) → slice_get xs i ≡ Some n → take i xs ++ n ∷ [] ≡ take (suc i) xs
take_more [] i n e = absurd (cc)
take_more (x ∷ xs) zero n e = ap (λ y. y ∷ []) (sym (same_Some _ _ e))
take_more (x ∷ xs) (suc i) n e = ap (λ ys. x ∷ ys) (take_more xs i n e)

-- the first names, and the one that comes next
first_names : (old new all : List Text) (n : Text) → old ≡ take (length old) all → slice_get all (length old) ≡ Some n → new ≡ old ++ n ∷ [] → new ≡ take (length new) all
first_names old new all n front next e =
    let count : suc (length old) ≡ length new = let l = ap length e ∙ length-append old (n ∷ []) in omega (arith, l) in
    e ∙ ap (λ ys. ys ++ n ∷ []) front ∙ take_more all (length old) n next ∙ ap (λ i. take i all) count

take_all : (xs : List Text) (i : ℕ) → length xs ≤ i → take i xs ≡ xs
take_all [] zero l = refl
take_all [] (suc i) l = refl
take_all (x ∷ xs) zero l = absurd (omega arith)
take_all (x ∷ xs) (suc i) l = ap (λ ys. x ∷ ys) (take_all xs i (omega arith))

entries_at : (h : Heap) (k : ℕ) (node : Node) → h k ≡ Some node → entries_in h k ≡ node.children.entries
entries_at h k node is = ap (λ o. option_map_or (λ (x : Node). x.children.entries) o []) is

nothing_at : {A : Type 0} (es : List A) (i : ℕ) → slice_get es i ≡ None → length es ≤ i
nothing_at [] i e = omega arith
nothing_at (x ∷ es) zero e = absurd (cc)
nothing_at (x ∷ es) (suc i) e = let l = nothing_at es i e in omega arith

-- what comes next of a node's children, by the number of those that its copy has
module _ (h g : Heap) (k t : ℕ) (l : IsLike h g k t) (node copy : Node) (is : Some node ≡ h k) (twin : Some copy ≡ g t) where
  this_is : l.this ≡ node
  this_is = same_Some _ _ (sym l.is ∙ sym is)

  that_is : l.that ≡ copy
  that_is = same_Some _ _ (sym l.twin ∙ sym twin)

  front : keys copy.children ≡ take (length (keys copy.children)) (keys node.children)
  front = ap (λ (x : Node). keys x.children) (sym that_is) ∙ l.names ∙ (λ i. take (length (keys (that_is i).children)) (keys (this_is i).children))

  pub whole_at_end : slice_get node.children.entries (length copy.children.entries) ≡ None → IsWhole h g k t
  whole_at_end none =
      let end = nothing_at node.children.entries (length copy.children.entries) none in
      let n = names_length node.children.entries in
      let m = names_length copy.children.entries in
      record { this = node; is = sym is; that = copy; twin = sym twin; names = front ∙ take_all (keys node.children) (length (keys copy.children)) (omega arith) }

  module _ (root : ℕ) (sound : IsSound h root) (distinct : IsDistinct bytes_eq (keys node.children)) (n : Text) (c : ℕ)
      (here : slice_get node.children.entries (length copy.children.entries) ≡ Some (n, c)) where
    pub next_child : child_in h k n ≡ Some c
    next_child = child_is h root sound k node (sym is) distinct (length copy.children.entries) n c here

    pub next_first : slice_get (entries_in h k) (children_in g t) ≡ Some (n, c)
    next_first =
        let count : children_in g t ≡ length copy.children.entries = children-at g t copy (sym twin) ∙ names_length copy.children.entries in
        (λ i. slice_get (entries_at h k node (sym is) i) (count i)) ∙ here

    pub next_absent : get bytes_eq copy.children n ≡ None
    next_absent = not_yet node.children.entries copy.children.entries n c distinct front (ap (slice_get node.children.entries) (names_length copy.children.entries) ∙ here)

    pub next_missing : child_in g t n ≡ None
    next_missing = child-at g t n copy (sym twin) ∙ next_absent

    pub next_there : h c ≢ None
    next_there none = clash _ (sym (link-none h c none) ∙ sound.down k n c next_child)

-- less is left behind more entries
drop_less : (f : ℕ → ℕ) (es : List (Text × ℕ)) (i j : ℕ) → i ≤ j → sum_of f (drop j es) ≤ sum_of f (drop i es)
drop_less f [] zero zero l = omega arith
drop_less f [] zero (suc j) l = omega arith
drop_less f [] (suc i) zero l = omega arith
drop_less f [] (suc i) (suc j) l = omega arith
drop_less f (e ∷ es) zero zero l = omega arith
drop_less f (e ∷ es) zero (suc j) l = let d = drop_less f es zero j (omega arith) in omega arith
drop_less f (e ∷ es) (suc i) zero l = absurd (omega arith)
drop_less f (e ∷ es) (suc i) (suc j) l = drop_less f es i j (omega arith)

-- ## One child more

module _ (h : Heap) (whole : ℕ) (sound : IsSound h whole) (guards : IsGuarded h) (order : IsOrdered h whole) (s t : Slab Node) (top root : ℕ) (part : IsPart h (slab.get s) top root)
    (k twin c d : ℕ) (at : IsPair h (slab.get s) top root k twin) (a : Adds h s t k twin c d) where
  like : IsLike h (slab.get s) k twin
  like = part.like at.0 k twin at.1 at.2

  old_is : a.joined.old ≡ like.that
  old_is = same_Some _ _ (sym a.joined.old_is ∙ like.twin)

  level : a.made.level ≡ a.joined.old.level + 1
  level =
      let x = a.bare.level in
      let y = level-at h c a.source a.source_is in
      let z = sound.levels k a.name c a.child in
      let u = level-at h k like.this like.is in
      let v = like.level in
      let w = ap (λ (n : Node). n.level) old_is in
      omega (arith, x, y, z, u, v, w)

  fits : a.made.level < 2 ^ 64
  fits =
      let x = a.bare.level in
      let y = level-at h c a.source a.source_is in
      let z = sound.fits c in
      omega (arith, x, y, z)

  absent : get bytes_eq a.joined.old.children a.name ≡ None
  absent = sym (child-at (slab.get s) twin a.name a.joined.old a.joined.old_is) ∙ a.absent

  grows : Grows (slab.get s) (slab.get t) twin a.name d
  grows = grows_joined s t twin a.name a.made d a.joined a.bare.parent a.bare.name a.bare.leaf level absent fits

  sound_step : IsSound (slab.get t) root
  sound_step = sound-grows (slab.get s) (slab.get t) root twin a.name d grows part.sound

  count_old : children_in (slab.get s) twin ≡ length (keys like.that.children)
  count_old = children-at (slab.get s) twin like.that like.twin

  next : slice_get like.this.children.entries (length (keys like.that.children)) ≡ Some (a.name, c)
  next = sym (λ i. slice_get (entries_at h k like.this like.is i) (count_old i)) ∙ a.first

  guarded_step : IsGuarded (slab.get t)
  guarded_step = guarded_joined s t twin a.name a.made d a.joined a.bare.parent a.bare.name a.bare.leaf level absent fits root part.sound part.guarded
      (λ e.
      let this_safe : safe_in h k ≡ true = safe-at h k like.this like.is ∙ ap (λ (v : NodeView). v.safe) (sym (like.state [])) ∙ ap (λ (n : Node). n.state.safe) (sym old_is) ∙ e in
      ap (λ (v : NodeView). v.safe) (a.bare.state []) ∙ sym (safe-at h c a.source a.source_is) ∙ guards.safe k a.name c a.child this_safe)
      (
      let x = slice_get_within like.this.children.entries (length (keys like.that.children)) (a.name, c) next in
      let y = children-at h k like.this like.is in
      let z = names_length like.this.children.entries in
      let f = guards.few k in
      let w = ap (λ (n : Node). length (keys n.children)) old_is in
      omega (arith, x, y, z, f, w)
      )

  ordered_step : IsOrdered (slab.get t) root
  ordered_step = ordered_grown (slab.get s) (slab.get t) root twin a.name d a.made.state.depth grows part.ordered
      (follow_stands (slab.get s) root part.sound part.ordered at.0 twin at.2)
      (
      let x = ap depth_at (held-at (slab.get s) twin like.that like.twin) in
      let y = ap (λ (v : NodeView). v.depth) (like.state []) in
      let z = ap depth_at (held-at h k like.this like.is) in
      let u = ap depth_at (held-at h c a.source a.source_is) in
      let v = ap (λ (v : NodeView). v.depth) (a.bare.state []) in
      let w = order.depths c k a.name (link-above h c k a.name (sound.down k a.name c a.child)) in
      omega (arith, x, y, z, u, v, w)
      )
      (follow_there (slab.get s) root part.sound part.ordered at.0 twin at.2)
      (held-none (slab.get s) d a.joined.was)
      (held-at (slab.get t) d a.made a.joined.here ∙ (λ i. Some (record { above = option_map (λ j. (j, a.bare.name i)) (a.bare.parent i); depth = a.made.state.depth; gone = a.bare.stands i })))
      (λ j other. elim (cases_eq j twin) [
        | inl e ↦
            ap (held_in (slab.get t)) e ∙ held-at (slab.get t) twin a.joined.new a.joined.new_is
            ∙ (λ i. Some (record { above = option_map (λ n. (n, a.joined.name i)) (a.joined.parent i); depth = a.joined.depth i; gone = a.joined.stands i }))
            ∙ sym (held-at (slab.get s) twin a.joined.old a.joined.old_is) ∙ ap (held_in (slab.get s)) (sym e)
        | inr p ↦ held-eq (slab.get s) (slab.get t) j (a.joined.others j p other)
      ])

  pub kept_step : (q : Path) (j : ℕ) → follow (slab.get s) root q ≡ Some j → follow (slab.get t) root q ≡ Some j
  kept_step = follow_grown (slab.get s) (slab.get t) root twin a.name d grows part.sound

  child_new : child_in (slab.get t) twin a.name ≡ Some d
  child_new = grows.child_parent a.name ∙ ap (λ b. cond b (Some d) (child_in (slab.get s) twin a.name)) ((bytes_eq-Decides a.name a.name).1 refl)

  pair_new : IsPair h (slab.get t) top root c d
  pair_new = (
    at.0 ++ a.name ∷ [],
    then_child h top at.0 a.name k at.1 ∙ a.child,
    then_child (slab.get t) root at.0 a.name twin (kept_step at.0 twin at.2) ∙ child_new,
  )

  -- a path leads to the new pair, to its parents, or where it led
  data Where (p : Path) (j u : ℕ) : Type 0 where
    New : j ≡ c → u ≡ d → Where p j u
    Parents : j ≡ k → u ≡ twin → Where p j u
    Other : follow (slab.get s) root p ≡ Some u → slab.get t u ≡ slab.get s u → Where p j u

  where_to : (p : Path) (j u : ℕ) → follow h top p ≡ Some j → follow (slab.get t) root p ≡ Some u → Where p j u
  where_to p j u e f = elim (cases_eq u d) [
    | inl same ↦
        let path = one_path (slab.get t) root sound_step p pair_new.0 d (f ∙ ap Some same) pair_new.2 in
        New (same_Some _ _ (sym e ∙ ap (follow h top) path ∙ pair_new.1)) same
    | inr new ↦ elim (cases_eq u twin) [
      | inl same ↦
          let path = one_path (slab.get t) root sound_step p at.0 twin (f ∙ ap Some same) (kept_step at.0 twin at.2) in
          Parents (same_Some _ _ (sym e ∙ ap (follow h top) path ∙ at.1)) same
      | inr other ↦ Other (follow-shrinks (slab.get s) (slab.get t) root twin a.name d grows p u f new) (a.joined.others u other new)
    ]
  ]

  like_new : IsLike h (slab.get t) c d
  like_new =
      let none : keys a.made.children ≡ [] = ap keys_of a.bare.leaf in
      record {
        this = a.source;
        is = a.source_is;
        that = a.made;
        twin = a.joined.here;
        level = a.bare.level;
        state = a.bare.state;
        names = none ∙ sym (ap (λ (xs : List Text). take (length xs) (keys a.source.children)) none);
      }

  like_parents : IsLike h (slab.get t) k twin
  like_parents = record {
    this = like.this;
    is = like.is;
    that = a.joined.new;
    twin = a.joined.new_is;
    level = a.joined.level ∙ ap (λ (n : Node). n.level) old_is ∙ like.level;
    state = λ names. ap (λ (x : State). state_view x names) (a.state ∙ ap (λ (n : Node). n.state) old_is) ∙ like.state names;
    names = first_names (keys like.that.children) (keys a.joined.new.children) (keys like.this.children) a.name like.names
        (name_at like.this.children.entries (length (keys like.that.children)) a.name c next)
        (a.joined.names ∙ ap (λ (n : Node). keys n.children ++ a.name ∷ []) old_is);
  }

  moved : (g : Heap) (j u i v : ℕ) → j ≡ i → u ≡ v → IsLike h g i v → IsLike h g j u
  moved g j u i v e f l = subst (λ x. IsLike h g x u) (sym e) (subst (λ x. IsLike h g i x) (sym f) l)

  like_step : (p : Path) (j u : ℕ) → follow h top p ≡ Some j → follow (slab.get t) root p ≡ Some u → IsLike h (slab.get t) j u
  like_step p j u e f = by (where_to p j u e f)
    where
      by : Where p j u → IsLike h (slab.get t) j u
      by (New x y) = moved (slab.get t) j u c d x y like_new
      by (Parents x y) = moved (slab.get t) j u k twin x y like_parents
      by (Other x y) = let l = part.like p j u e x in record { this = l.this; is = l.is; that = l.that; twin = y ∙ l.twin; level = l.level; state = l.state; names = l.names }

  pub part_step : IsPart h (slab.get t) top root
  part_step = record { sound = sound_step; guarded = guarded_step; ordered = ordered_step; like = like_step }

  -- what isn't whole is listed
  pub each_step : (xs : List (ℕ × ℕ)) → ((p : Path) (j u : ℕ) → follow h top p ≡ Some j → follow (slab.get s) root p ≡ Some u → IsWhole h (slab.get s) j u ⊎ IsListed (xs ++ (k, twin) ∷ []) j u)
      → (p : Path) (j u : ℕ) → follow h top p ≡ Some j → follow (slab.get t) root p ≡ Some u → IsWhole h (slab.get t) j u ⊎ IsListed ((xs ++ (k, twin) ∷ []) ++ (c, d) ∷ []) j u
  each_step xs each p j u e f = by (where_to p j u e f)
    where
      by : Where p j u → IsWhole h (slab.get t) j u ⊎ IsListed ((xs ++ (k, twin) ∷ []) ++ (c, d) ∷ []) j u
      by (New x y) = inr (listed_right (xs ++ (k, twin) ∷ []) ((c, d) ∷ []) j u (inl (λ i. (sym x i, sym y i))))
      by (Parents x y) = inr (listed_left (xs ++ (k, twin) ∷ []) ((c, d) ∷ []) j u (listed_right xs ((k, twin) ∷ []) j u (inl (λ i. (sym x i, sym y i)))))
      by (Other x y) = elim (each p j u e x) [
        | inl w ↦ inl (record { this = w.this; is = w.is; that = w.that; twin = y ∙ w.twin; names = w.names })
        | inr w ↦ inr (listed_left (xs ++ (k, twin) ∷ []) ((c, d) ∷ []) j u w)
      ]

  -- names lead to what is listed
  pub pairs_step : (xs : List (ℕ × ℕ)) → ((j u : ℕ) → IsListed xs j u → IsPair h (slab.get s) top root j u) → (j u : ℕ) → IsListed (xs ++ (c, d) ∷ []) j u → IsPair h (slab.get t) top root j u
  pairs_step xs pairs j u w = elim (listed_cases xs ((c, d) ∷ []) j u w) [
    | inl v ↦ let p = pairs j u v in (p.0, p.1, kept_step p.0 u p.2)
    | inr v ↦ elim v [
      | inl e ↦ subst (λ (x : ℕ × ℕ). IsPair h (slab.get t) top root x.0 x.1) e pair_new
      | inr none ↦ absurd none
    ]
  ]

  count_grows : (u : ℕ) → children_in (slab.get s) u ≤ children_in (slab.get t) u
  count_grows u = elim (cases_eq u d) [
    | inl same ↦ let e = children-none (slab.get s) u (ap (slab.get s) same ∙ a.joined.was) in omega arith
    | inr new ↦ elim (cases_eq u twin) [
      | inl same ↦
          let x = ap (children_in (slab.get s)) same ∙ children-at (slab.get s) twin a.joined.old a.joined.old_is in
          let y = ap (children_in (slab.get t)) same ∙ children-at (slab.get t) twin a.joined.new a.joined.new_is in
          let z = ap length a.joined.names ∙ length-append (keys a.joined.old.children) (a.name ∷ []) in
          omega (arith, x, y, z)
      | inr other ↦ let e = children-eq (slab.get t) (slab.get s) u (a.joined.others u other new) in omega arith
    ]
  ]

  left_grows : (xs : List (ℕ × ℕ)) → left_of h (slab.get t) xs ≤ left_of h (slab.get s) xs
  left_grows [] = omega arith
  left_grows (x ∷ xs) =
      let l = left_grows xs in
      let m = drop_less (weight (2 ^ 64 - suc (level_in h x.0)) h) (entries_in h x.0) (children_in (slab.get s) x.1) (children_in (slab.get t) x.1) (count_grows x.1) in
      omega arith

  -- less is left to be copied
  pub less_step : (xs : List (ℕ × ℕ)) → left_of h (slab.get t) ((xs ++ (k, twin) ∷ []) ++ (c, d) ∷ []) < left_of h (slab.get s) (xs ++ (k, twin) ∷ [])
  less_step xs =
      let A = left_append h (slab.get t) (xs ++ (k, twin) ∷ []) ((c, d) ∷ []) in
      let B = left_append h (slab.get t) xs ((k, twin) ∷ []) in
      let C = left_append h (slab.get s) xs ((k, twin) ∷ []) in
      let G = left_grows xs in
      let l = sound.levels k a.name c a.child in
      let f = sound.fits c in
      let deeper : 2 ^ 64 - suc (level_in h k) ≡ suc (2 ^ 64 - suc (level_in h c)) = omega (arith, l, f) in
      let below : weight (2 ^ 64 - suc (level_in h k)) h c ≡ 2 + sum_of (weight (2 ^ 64 - suc (level_in h c)) h) (entries_in h c) =
      ap (λ m. weight m h c) deeper ∙ weight_step (2 ^ 64 - suc (level_in h c)) h c (entries_in h c) refl in
      let was : sum_of (weight (2 ^ 64 - suc (level_in h k)) h) (drop (children_in (slab.get s) twin) (entries_in h k))
      ≡ weight (2 ^ 64 - suc (level_in h k)) h c + sum_of (weight (2 ^ 64 - suc (level_in h k)) h) (drop (suc (children_in (slab.get s) twin)) (entries_in h k)) =
      ap (sum_of (weight (2 ^ 64 - suc (level_in h k)) h)) (from_place (entries_in h k) (children_in (slab.get s) twin) (a.name, c) a.first) in
      let count : children_in (slab.get t) twin ≡ suc (children_in (slab.get s) twin) =
      let x = children-at (slab.get s) twin a.joined.old a.joined.old_is in
      let y = children-at (slab.get t) twin a.joined.new a.joined.new_is in
      let z = ap length a.joined.names ∙ length-append (keys a.joined.old.children) (a.name ∷ []) in
      omega (arith, x, y, z) in
      let now : sum_of (weight (2 ^ 64 - suc (level_in h k)) h) (drop (children_in (slab.get t) twin) (entries_in h k)) ≡ sum_of (weight (2 ^ 64 - suc (level_in h k)) h) (drop (suc (children_in (slab.get s) twin)) (entries_in h k)) =
      ap (λ i. sum_of (weight (2 ^ 64 - suc (level_in h k)) h) (drop i (entries_in h k))) count in
      let new : sum_of (weight (2 ^ 64 - suc (level_in h c)) h) (drop (children_in (slab.get t) d) (entries_in h c)) ≡ sum_of (weight (2 ^ 64 - suc (level_in h c)) h) (entries_in h c) =
      ap (λ i. sum_of (weight (2 ^ 64 - suc (level_in h c)) h) (drop i (entries_in h c))) (children-at (slab.get t) d a.made a.joined.here ∙ ap (λ es. length (keys_of es)) a.bare.leaf) in
      omega (arith, A, B, C, G, below, was, now, new)

-- a key whose children were all copied is listed no more
pub each_popped : (h g : Heap) (top root k twin : ℕ) (xs : List (ℕ × ℕ)) → IsWhole h g k twin
    → ((p : Path) (j u : ℕ) → follow h top p ≡ Some j → follow g root p ≡ Some u → IsWhole h g j u ⊎ IsListed (xs ++ (k, twin) ∷ []) j u)
    → (p : Path) (j u : ℕ) → follow h top p ≡ Some j → follow g root p ≡ Some u → IsWhole h g j u ⊎ IsListed xs j u
each_popped h g top root k twin xs w each p j u e f = elim (each p j u e f) [
  | inl v ↦ inl v
  | inr v ↦ elim (listed_cases xs ((k, twin) ∷ []) j u v) [
    | inl x ↦ inr x
    | inr x ↦ elim x [
      | inl same ↦ inl (subst (λ (y : ℕ × ℕ). IsWhole h g y.0 y.1) same w)
      | inr none ↦ absurd none
    ]
  ]
]

-- ## The first node

module _ (h g : Heap) (top root : ℕ) (name : Text) (source made : Node) (is : h top ≡ Some source) (here : g root ≡ Some made) (others : (j : ℕ) → j ≢ root → g j ≡ None)
    (bare : IsBare source made None name) (fits : source.level < 2 ^ 64) where
  first_fits : made.level < 2 ^ 64
  first_fits = let e = bare.level in omega (arith, e, fits)

  no_child : (n : Text) → child_in g root n ≡ None
  no_child n = child-at g root n made here ∙ ap (lookup (bytes_eq n)) bare.leaf

  leads : (p : Path) (j u : ℕ) → follow h top p ≡ Some j → follow g root p ≡ Some u → (j ≡ top) × (u ≡ root)
  unfolding follow
  leads [] j u e f = (sym (same_Some _ _ e), sym (same_Some _ _ f))
  leads (n ∷ p) j u e f = absurd (clash u (sym (ap (option_and_then (λ c. follow g c p)) (no_child n)) ∙ f))

  like_first : IsLike h g top root
  like_first =
      let none : keys made.children ≡ [] = ap keys_of bare.leaf in
      record {
        this = source;
        is = is;
        that = made;
        twin = here;
        level = bare.level;
        state = bare.state;
        names = none ∙ sym (ap (λ (xs : List Text). take (length xs) (keys source.children)) none);
      }

  pub part_first : IsPart h g top root
  part_first = record {
    sound = sound-single g root made here bare.parent first_fits bare.leaf others;
    guarded = guarded-single g root made here bare.parent first_fits bare.leaf others;
    ordered = ordered_single g root made here bare.parent first_fits bare.leaf others bare.stands;
    like = λ p j u e f. let w = leads p j u e f in subst (λ x. IsLike h g x u) (sym w.0) (subst (λ x. IsLike h g top x) (sym w.1) like_first);
  }

  pub each_first : (p : Path) (j u : ℕ) → follow h top p ≡ Some j → follow g root p ≡ Some u → IsWhole h g j u ⊎ IsListed ((top, root) ∷ []) j u
  each_first p j u e f = let w = leads p j u e f in inr (inl (λ i. (sym w.0 i, sym w.1 i)))

  pub pairs_first : (j u : ℕ) → IsListed ((top, root) ∷ []) j u → IsPair h g top root j u
  pairs_first j u w = elim w [
    | inl e ↦ subst (λ (x : ℕ × ℕ). IsPair h g top root x.0 x.1) e ([], follow-nil h top, follow-nil g root)
    | inr none ↦ absurd none
  ]

-- ## All of it

module _ (h g : Heap) (top root : ℕ) (part : IsPart h g top root) (each : (p : Path) (j u : ℕ) → follow h top p ≡ Some j → follow g root p ≡ Some u → IsWhole h g j u) where
  same_below : (q p : Path) (j u : ℕ) → follow h top p ≡ Some j → follow g root p ≡ Some u → tree_in g u q ≡ tree_in h j q
  same_below [] p j u e f =
      let l = part.like p j u e f in
      let w = each p j u e f in
      let that_is : w.that ≡ l.that = same_Some _ _ (sym w.twin ∙ l.twin) in
      let this_is : w.this ≡ l.this = same_Some _ _ (sym w.is ∙ l.is) in
      let names : keys l.that.children ≡ keys l.this.children = ap (λ (n : Node). keys n.children) (sym that_is) ∙ w.names ∙ ap (λ (n : Node). keys n.children) this_is in
      let views : view_of l.that ≡ view_of l.this = l.state (keys l.that.children) ∙ ap (state_view l.this.state) names in
      top_at g u ∙ ap (option_map view_of) l.twin ∙ ap Some views ∙ sym (top_at h j ∙ ap (option_map view_of) l.is)
  same_below (n ∷ q) p j u e f = by (get bytes_eq w.this.children n) refl (same_below q (p ++ n ∷ []))
    where
      w : IsWhole h g j u
      w = each p j u e f

      by : (o : Option ℕ) → get bytes_eq w.this.children n ≡ o → ((i v : ℕ) → follow h top (p ++ n ∷ []) ≡ Some i → follow g root (p ++ n ∷ []) ≡ Some v → tree_in g v q ≡ tree_in h i q) → tree_in g u (n ∷ q) ≡ tree_in h j (n ∷ q)
      by None x ih =
          below_none g u n q (child-at g u n w.that w.twin ∙ missing h g j u w.this w.that w.is w.twin (sym w.names) n x)
          ∙ sym (below_none h j n q (child-at h j n w.this w.is ∙ x))
      by (Some i) x ih =
          let v = found h g j u w.this w.that w.is w.twin (sym w.names) n i x in
          let down : child_in h j n ≡ Some i = child-at h j n w.this w.is ∙ x in
          let there : child_in g u n ≡ Some v.0 = child-at g u n w.that w.twin ∙ v.1 in
          below_child g u n v.0 q there ∙ ih i v.0 (then_child h top p n j e ∙ down) (then_child g root p n u f ∙ there) ∙ sym (below_child h j n i q down)

  pub copied : IsCopy h g top root
  copied = record { sound = part.sound; guarded = part.guarded; ordered = part.ordered; same = λ q. same_below q [] top root (follow-nil h top) (follow-nil g root) }

-- what is below a path is what is below the key that it leads to
pub tree_along : (h : Heap) (root top : ℕ) (p q : Path) → follow h root p ≡ Some top → tree_in h root (p ++ q) ≡ tree_in h top q
unfolding tree_in
tree_along h root top p q e = ap (option_and_then (λ k. option_map view_of (h k))) (follow_append h p q root ∙ ap (option_and_then (λ c. follow h c q)) e)

-- ## The walk

pub walk_first : (h : Heap) (whole : ℕ) → IsSound h whole → (s : Slab Node) (top root : ℕ) (name : Text) (source made : Node) → h top ≡ Some source → slab.get s root ≡ Some made → ((j : ℕ) → j ≢ root → slab.get s j ≡ None)
    → IsBare source made None name → IsWalk h (slab.get s) top root ((top, root) ∷ [])
walk_first h whole sound s top root name source made is here others bare =
    let fits : source.level < 2 ^ 64 = let f = sound.fits top in let e = level-at h top source is in omega (arith, f, e) in
    record {
      part = part_first h (slab.get s) top root name source made is here others bare fits;
      pairs = pairs_first h (slab.get s) top root name source made is here others bare fits;
      each = each_first h (slab.get s) top root name source made is here others bare fits;
    }

last_pair : (h g : Heap) (top root k t : ℕ) (xs : List (ℕ × ℕ)) → IsWalk h g top root (xs ++ (k, t) ∷ []) → IsPair h g top root k t
last_pair h g top root k t xs w = w.pairs k t (listed_right xs ((k, t) ∷ []) k t (inl refl))

pub walk_like : (h g : Heap) (top root k t : ℕ) (xs : List (ℕ × ℕ)) → IsWalk h g top root (xs ++ (k, t) ∷ []) → IsLike h g k t
walk_like h g top root k t xs w = let p = last_pair h g top root k t xs w in w.part.like p.0 k t p.1 p.2

pub walk_popped : (h g : Heap) (top root k t : ℕ) (xs : List (ℕ × ℕ)) → IsWalk h g top root (xs ++ (k, t) ∷ []) → IsWhole h g k t → IsWalk h g top root xs
walk_popped h g top root k t xs w all = record {
  part = w.part;
  pairs = λ j u l. w.pairs j u (listed_left xs ((k, t) ∷ []) j u l);
  each = each_popped h g top root k t xs all w.each;
}

module _ (h : Heap) (whole : ℕ) (sound : IsSound h whole) (guards : IsGuarded h) (order : IsOrdered h whole) (s t : Slab Node) (top root k twin c d : ℕ) (xs : List (ℕ × ℕ))
    (w : IsWalk h (slab.get s) top root (xs ++ (k, twin) ∷ [])) (a : Adds h s t k twin c d) where
  pub walk_more : IsWalk h (slab.get t) top root ((xs ++ (k, twin) ∷ []) ++ (c, d) ∷ [])
  walk_more =
      let p = last_pair h (slab.get s) top root k twin xs w in
      record {
        part = part_step h whole sound guards order s t top root w.part k twin c d p a;
        pairs = pairs_step h whole sound guards order s t top root w.part k twin c d p a (xs ++ (k, twin) ∷ []) w.pairs;
        each = each_step h whole sound guards order s t top root w.part k twin c d p a xs w.each;
      }

  pub walk_less : left_of h (slab.get t) ((xs ++ (k, twin) ∷ []) ++ (c, d) ∷ []) < left_of h (slab.get s) (xs ++ (k, twin) ∷ [])
  walk_less = less_step h whole sound guards order s t top root w.part k twin c d (last_pair h (slab.get s) top root k twin xs w) a xs

pub walk_done : (h g : Heap) (top root : ℕ) (xs : List (ℕ × ℕ)) → length xs ≡ 0 → IsWalk h g top root xs → IsCopy h g top root
walk_done h g top root [] none w = copied h g top root w.part (λ p j u e f. elim (w.each p j u e f) [
  | inl x ↦ x
  | inr x ↦ absurd x
])
walk_done h g top root (x ∷ xs) none w = absurd (omega arith)
