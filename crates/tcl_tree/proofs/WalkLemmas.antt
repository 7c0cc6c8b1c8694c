-- Walks through two tables at once, and what is left of them.
use Rattle.std.proofs.Common.{◌≡◌, ℕ, zero, suc, ◌+◌, ◌-◌, ◌^◌, ◌<◌, ◌≤◌, List, [], ◌∷◌, ◌++◌, Bool, true, false, not, cond, length, drop, take, refl, sym, ◌∙◌, ap, subst, inl, inr, arith, Option, Some, None, add-one}
use Rattle.std.specs.Prelude.{◌⊎◌, IfNone, IfSome, slice_get, nat_lt}
use Rattle.std.specs.List.{AllByRecursion, IsDistinct, position, position_or_len, prefix_len}
use Rattle.std.specs.Map.{keys_of, lookup, values_of}
use Rattle.std.specs.Option.{option_and_then, option_map, option_map_or, option_zip}
use Rattle.std.specs.Str.{bytes_eq}
use Rattle.std.proofs.lemmas.Bool.Decides.{nat_tests}
use Rattle.std.proofs.lemmas.Map.Keys.{IsDistinct-head, IsDistinct-tail}
use Rattle.std.proofs.lemmas.Option.{same_Some, slice_get_within}
use Rattle.std.proofs.lemmas.Slice.Eq.{bytes_eq-Decides}
use Rattle.indexmap.specs.IndexMap.{get, index_of, keys, values}
use Rattle.tcl_interpreter.specs.Paths.{Text, Path}
use Rattle.tcl_tree.specs.Nodes.{Heap, IsSound, NodeView, child_in, follow, level_in, link_in, link_of, view_of}
use Rattle.tcl_tree.specs.Walking.{SameBelow, SameChildren, Twins, Reached, behind_in, entries_behind, entries_in, first_in, left, left_behind, link_above, parent_in, sibling_in, sum_of, weight, weight_behind}
use Rattle.tcl_tree.specs.Walking.Reached.{Tops, Children}
use Rattle.tcl_interpreter.specs.declared.node.Node.{Node}
use Rattle.tcl_tree.proofs.HeapLemmas.{follow-nil, then_child, tree-at}
use Rattle.tcl_tree.proofs.StepLemmas.{child-at}
use Rattle.tcl_interpreter.proofs.SameLemmas.{name_at, names_length}
use Rattle.tcl_tree.proofs.ComparingLemmas.{all_same, nowhere, same_text}

-- ## Places in lists of entries

abbrev Entries : Type 0
Entries = List (Text × ℕ)

differs : (x n : Text) (xs : List Text) (i : ℕ) → AllByRecursion (λ y. bytes_eq x y ≡ false) xs → slice_get xs i ≡ Some n → bytes_eq n x ≡ false
differs x n [] i all e = absurd (cc)
differs x n (y ∷ ys) zero all e = by (bytes_eq n x) refl
  where
    by : (b : Bool) → bytes_eq n x ≡ b → b ≡ false
    by false f = refl
    by true f =
        let same : n ≡ x = same_text n x f in
        let is : y ≡ n = same_Some _ _ e in
        let t : bytes_eq x y ≡ true = (bytes_eq-Decides x y).1 (sym (is ∙ same)) in
        let u : bytes_eq x y ≡ false = all.0 in
        absurd (cc)
differs x n (y ∷ ys) (suc i) all e = differs x n ys i all.1 e

itself : (n : Text) → bytes_eq n n ≡ true
itself n = (bytes_eq-Decides n n).1 refl

first_at : (es : Entries) (i : ℕ) (n : Text) (c : ℕ) → IsDistinct bytes_eq (keys_of es) → slice_get es i ≡ Some (n, c) → position_or_len (bytes_eq n) (keys_of es) ≡ i
first_at [] i n c d e = absurd (cc)
first_at (x ∷ es) zero n c d e =
    let t : bytes_eq n x.0 ≡ true = (bytes_eq-Decides n x.0).1 (sym (ap (λ (y : Text × ℕ). y.0) (same_Some _ _ e))) in
    ap (λ b. cond (not b) (1 + prefix_len (λ y. not (bytes_eq n y)) (keys_of es)) 0) t
first_at (x ∷ es) (suc i) n c d e =
    let t : bytes_eq n x.0 ≡ false = differs x.0 n (keys_of es) i (IsDistinct-head bytes_eq x.0 (keys_of es) d) (name_at es i n c e) in
    let a : position_or_len (bytes_eq n) (keys_of (x ∷ es)) ≡ 1 + position_or_len (bytes_eq n) (keys_of es) = ap (λ b. cond (not b) (1 + prefix_len (λ y. not (bytes_eq n y)) (keys_of es)) 0) t in
    let rest = first_at es i n c (IsDistinct-tail bytes_eq x.0 (keys_of es) d) e in
    omega (arith, a, rest)

-- a name is none of those before it
none_before : (xs : List Text) (i : ℕ) (n : Text) → IsDistinct bytes_eq xs → slice_get xs i ≡ Some n → AllByRecursion (λ y. bytes_eq n y ≡ false) (take i xs)
none_before [] i n d e = absurd (cc)
none_before (x ∷ xs) zero n d e = tt
none_before (x ∷ xs) (suc i) n d e = (differs x n xs i (IsDistinct-head bytes_eq x xs d) e, none_before xs i n (IsDistinct-tail bytes_eq x xs d) e)

none_found : (es : Entries) (n : Text) → AllByRecursion (λ y. bytes_eq n y ≡ false) (keys_of es) → lookup (bytes_eq n) es ≡ None
none_found [] n all = refl
none_found (x ∷ es) n all = ap (λ b. cond b (Some x.1) (lookup (bytes_eq n) es)) all.0 ∙ none_found es n all.1

-- where the first entries are another map's, the name that comes next there is none of this one's
pub not_yet : (es fs : Entries) (n : Text) (c : ℕ) → IsDistinct bytes_eq (keys_of es) → keys_of fs ≡ take (length (keys_of fs)) (keys_of es) → slice_get es (length (keys_of fs)) ≡ Some (n, c) → lookup (bytes_eq n) fs ≡ None
not_yet es fs n c d names e = none_found fs n (subst (AllByRecursion (λ y. bytes_eq n y ≡ false)) (sym names) (none_before (keys_of es) (length (keys_of fs)) n d (name_at es (length (keys_of fs)) n c e)))

position_at : (p : Text → Bool) (xs : List Text) (i : ℕ) → position_or_len p xs ≡ i → i < length xs → position p xs ≡ Some i
position_at p xs i e l =
    let t : nat_lt i (length xs) ≡ true = grind (arith, nat_tests) in
    ap (λ j. cond (nat_lt j (length xs)) (Some j) None) e ∙ ap (λ b. cond b (Some i) None) t

-- an entry stands where its name is first found
place_of : (es : Entries) (i : ℕ) (n : Text) (c : ℕ) → IsDistinct bytes_eq (keys_of es) → slice_get es i ≡ Some (n, c) → position (bytes_eq n) (keys_of es) ≡ Some i
place_of es i n c d e =
    let l = slice_get_within es i (n, c) e in
    let m = names_length es in
    position_at (bytes_eq n) (keys_of es) i (first_at es i n c d e) (omega arith)

value_of : (es : Entries) (i : ℕ) (n : Text) (c : ℕ) → IsDistinct bytes_eq (keys_of es) → slice_get es i ≡ Some (n, c) → lookup (bytes_eq n) es ≡ Some c
value_of [] i n c d e = absurd (cc)
value_of (x ∷ es) zero n c d e =
    let same : x ≡ (n, c) = same_Some _ _ e in
    let t : bytes_eq n x.0 ≡ true = (bytes_eq-Decides n x.0).1 (sym (ap (λ (y : Text × ℕ). y.0) same)) in
    ap (λ b. cond b (Some x.1) (lookup (bytes_eq n) es)) t ∙ ap (λ (y : Text × ℕ). Some y.1) same
value_of (x ∷ es) (suc i) n c d e =
    let t : bytes_eq n x.0 ≡ false = differs x.0 n (keys_of es) i (IsDistinct-head bytes_eq x.0 (keys_of es) d) (name_at es i n c e) in
    ap (λ b. cond b (Some x.1) (lookup (bytes_eq n) es)) t ∙ value_of es i n c (IsDistinct-tail bytes_eq x.0 (keys_of es) d) e

-- the entry of a value, and the value of an entry
entry_at : (es : Entries) (i c : ℕ) → slice_get (values_of es) i ≡ Some c → (n : Text) × (slice_get es i ≡ Some (n, c))
entry_at [] i c e = absurd (cc)
entry_at (x ∷ es) zero c e = (x.0, ap (λ d. Some (x.0, d)) (same_Some _ _ e))
entry_at (x ∷ es) (suc i) c e = entry_at es i c e

pub value_there : (es : Entries) (i : ℕ) (n : Text) (c : ℕ) → slice_get es i ≡ Some (n, c) → slice_get (values_of es) i ≡ Some c
value_there [] i n c e = absurd (cc)
value_there (x ∷ es) zero n c e = ap (λ (y : Text × ℕ). Some y.1) (same_Some _ _ e)
value_there (x ∷ es) (suc i) n c e = value_there es i n c e

pub value_nowhere : (es : Entries) (i : ℕ) → slice_get es i ≡ None → slice_get (values_of es) i ≡ None
value_nowhere [] i e = refl
value_nowhere (x ∷ es) zero e = absurd (cc)
value_nowhere (x ∷ es) (suc i) e = value_nowhere es i e

past : (es : Entries) (i : ℕ) → slice_get (values_of es) i ≡ None → length es ≤ i
past [] i e = omega arith
past (x ∷ es) zero e = absurd (cc)
past (x ∷ es) (suc i) e = let l = past es i e in omega arith

-- the entries from a place on
pub from_place : (es : Entries) (i : ℕ) (x : Text × ℕ) → slice_get es i ≡ Some x → drop i es ≡ x ∷ drop (suc i) es
from_place [] i x e = absurd (cc)
from_place (y ∷ es) zero x e = ap (λ z. z ∷ es) (same_Some _ _ e)
from_place (y ∷ es) (suc i) x e = from_place es i x e

-- the same name stands at the same place
same_name : (es fs : Entries) (i : ℕ) (n m : Text) (c d : ℕ) → keys_of es ≡ keys_of fs → slice_get es i ≡ Some (n, c) → slice_get fs i ≡ Some (m, d) → n ≡ m
same_name es fs i n m c d same e f = same_Some _ _ (sym (name_at es i n c e) ∙ ap (λ xs. slice_get xs i) same ∙ name_at fs i m d f)

less_cases : (j i : ℕ) → j < i + 1 → (j < i) ⊎ (j ≡ i)
less_cases j i l = grind arith

-- ## Two optional keys

pub both_some : (x y : Option ℕ) (a b : ℕ) → option_zip x y ≡ Some (a, b) → (x ≡ Some a) × (y ≡ Some b)
both_some None y a b e = absurd (cc)
both_some (Some u) None a b e = absurd (cc)
both_some (Some u) (Some v) a b e = let same : (u, v) ≡ (a, b) = same_Some _ _ e in (ap (λ (z : ℕ × ℕ). Some z.0) same, ap (λ (z : ℕ × ℕ). Some z.1) same)

pub zip_of : (r : Option (ℕ × ℕ)) (a b x y : Option ℕ) → r ≡ option_zip a b → a ≡ x → b ≡ y → option_zip x y ≡ r
zip_of r a b x y e f g = sym (e ∙ ap (λ o. option_zip o b) f ∙ ap (option_zip x) g)

pub if_none : {P : Type 0} (r : Option (ℕ × ℕ)) → P → IfNone r P
if_none None p = p
if_none (Some x) p = tt

-- ## Parents and siblings

record Linked (h : Heap) (c k : ℕ) (n : Text) : Type 0 where
  node : Node
  is : h c ≡ Some node
  parent : node.parent ≡ Some k
  name : node.name ≡ n

linked_so : (h : Heap) (c k : ℕ) (n : Text) → link_in h c ≡ Some (Some (k, n)) → Linked h c k n
unfolding link_in
linked_so h c k n e = by (h c) refl e
  where
    up : (node : Node) → h c ≡ Some node → (o : Option ℕ) → node.parent ≡ o → option_map {U = ℕ × Text} (λ (p : ℕ). (p, node.name)) o ≡ Some (k, n) → Linked h c k n
    up node f None g x = absurd (cc)
    up node f (Some p) g x =
        let same : (p, node.name) ≡ (k, n) = same_Some _ _ x in
        record { node = node; is = f; parent = g ∙ ap (λ (y : ℕ × Text). Some y.0) same; name = ap (λ (y : ℕ × Text). y.1) same }

    by : (o : Option Node) → h c ≡ o → option_map link_of o ≡ Some (Some (k, n)) → Linked h c k n
    by None f x = absurd (cc)
    by (Some node) f x = up node f node.parent refl (same_Some _ _ x)

unlinked_so : (h : Heap) (c : ℕ) → link_in h c ≡ Some None → parent_in h c ≡ None
unfolding link_in
unlinked_so h c e = by (h c) e
  where
    up : (node : Node) (o : Option ℕ) → option_map {U = ℕ × Text} (λ (p : ℕ). (p, node.name)) o ≡ None → o ≡ None
    up node None x = refl
    up node (Some p) x = absurd (cc)

    by : (o : Option Node) → option_map link_of o ≡ Some None → option_and_then (λ (node : Node). node.parent) o ≡ None
    by None x = refl
    by (Some node) x = up node node.parent (same_Some _ _ x)

-- what comes behind a place among the children of the parent
pub sibling_at : (h : Heap) (key up i : ℕ) (node parent : Node) → h key ≡ Some node → node.parent ≡ Some up → h up ≡ Some parent → index_of bytes_eq parent.children node.name ≡ Some i →
    sibling_in h key ≡ slice_get (values parent.children) (i + 1)
sibling_at h key up i node parent is above there at =
    ap (option_and_then (λ (node : Node). option_and_then (λ p. behind_in h p node.name) node.parent)) is
    ∙ ap (option_and_then (λ p. behind_in h p node.name)) above
    ∙ ap (option_and_then (λ (x : Node). option_and_then (λ j. slice_get (values x.children) (j + 1)) (index_of bytes_eq x.children node.name))) there
    ∙ ap (option_and_then (λ j. slice_get (values parent.children) (j + 1))) at

-- what has no parent has no sibling
alone_so : (h : Heap) (c : ℕ) → parent_in h c ≡ None → sibling_in h c ≡ None
alone_so h c e = by (h c) e
  where
    by : (o : Option Node) → option_and_then (λ (node : Node). node.parent) o ≡ None → option_and_then (λ (node : Node). option_and_then (λ p. behind_in h p node.name) node.parent) o ≡ None
    by None x = refl
    by (Some node) x = ap (option_and_then (λ p. behind_in h p node.name)) x

behind_step : (all l : ℕ) (h : Heap) (c k : ℕ) (n : Text) (es : Entries) → link_above h c ≡ Some (k, n) → entries_behind h k n ≡ es →
    weight_behind all (suc l) h c ≡ 1 + sum_of (weight (all - suc l) h) es + weight_behind all l h k
unfolding weight_behind
behind_step all l h c k n es e f =
    ap (λ o. option_map_or (λ (p : ℕ × Text). 1 + sum_of (weight (all - suc l) h) (entries_behind h p.0 p.1) + weight_behind all l h p.0) o 0) e
    ∙ ap (λ xs. 1 + sum_of (weight (all - suc l) h) xs + weight_behind all l h k) f

pub weight_step : (m : ℕ) (h : Heap) (k : ℕ) (es : Entries) → entries_in h k ≡ es → weight (suc m) h k ≡ 2 + sum_of (weight m h) es
unfolding weight
weight_step m h k es e = ap (λ xs. 2 + sum_of (weight m h) xs) e

two_at_least : (m : ℕ) (h : Heap) (k : ℕ) → 2 ≤ weight m h k
unfolding weight
two_at_least zero h k = omega arith
two_at_least (suc m) h k = omega arith

-- one child of an interpreter
module _ (h : Heap) (root : ℕ) (sound : IsSound h root) (k : ℕ) (this : Node) (is : h k ≡ Some this) (distinct : IsDistinct bytes_eq (keys this.children))
    (i : ℕ) (n : Text) (c : ℕ) (here : slice_get this.children.entries i ≡ Some (n, c)) where
  pub kept : get bytes_eq this.children n ≡ Some c
  kept = value_of this.children.entries i n c distinct here

  pub child_is : child_in h k n ≡ Some c
  child_is = child-at h k n this is ∙ kept

  linked : Linked h c k n
  linked = linked_so h c k n (sound.down k n c child_is)

  found_place : index_of bytes_eq this.children n ≡ Some i
  found_place = place_of this.children.entries i n c distinct here

  pub parent_is : parent_in h c ≡ Some k
  parent_is = ap (option_and_then (λ node. node.parent)) linked.is ∙ linked.parent

  pub sibling_is : sibling_in h c ≡ slice_get (values this.children) (i + 1)
  sibling_is =
      ap (option_and_then (λ (node : Node). option_and_then (λ p. behind_in h p node.name) node.parent)) linked.is
      ∙ ap (option_and_then (λ p. behind_in h p linked.node.name)) linked.parent
      ∙ ap (behind_in h k) linked.name
      ∙ ap (option_and_then (λ (node : Node). option_and_then (λ j. slice_get (values node.children) (j + 1)) (index_of bytes_eq node.children n))) is
      ∙ ap (option_and_then (λ j. slice_get (values this.children) (j + 1))) found_place

  link_is : link_above h c ≡ Some (k, n)
  link_is =
      ap (option_and_then (λ (node : Node). option_and_then (λ p. Some (p, node.name)) node.parent)) linked.is
      ∙ ap (option_and_then (λ p. Some (p, linked.node.name))) linked.parent
      ∙ ap (λ m. Some (k, m)) linked.name

  behind_is : entries_behind h k n ≡ drop (suc i) this.children.entries
  behind_is =
      ap (λ o. option_map_or (λ (node : Node). option_map_or (λ j. drop (suc j) node.children.entries) (index_of bytes_eq node.children n) []) o []) is
      ∙ ap (λ o. option_map_or (λ j. drop (suc j) this.children.entries) o []) found_place

  pub level_is : level_in h c ≡ suc (level_in h k)
  level_is = let l = sound.levels k n c child_is in omega arith

  -- what is left behind a child
  pub behind_child : left_behind h c ≡ 1 + sum_of (weight (2 ^ 64 - level_in h c) h) (drop (suc i) this.children.entries) + left_behind h k
  behind_child =
      ap (λ l. weight_behind (2 ^ 64) l h c) level_is
      ∙ behind_step (2 ^ 64) (level_in h k) h c k n (drop (suc i) this.children.entries) link_is behind_is
      ∙ ap (λ l. 1 + sum_of (weight (2 ^ 64 - l) h) (drop (suc i) this.children.entries) + left_behind h k) (sym level_is)

-- ## Where a walk goes

module _ (h : Heap) (root : ℕ) (sound : IsSound h root) (k : ℕ) (this : Node) (is : h k ≡ Some this) (distinct : IsDistinct bytes_eq (keys this.children)) where
  -- from an interpreter to its first child
  first_less : (n : Text) (c : ℕ) → slice_get this.children.entries 0 ≡ Some (n, c) → left h c < left h k
  first_less n c here =
      let b = behind_child h root sound k this is distinct 0 n c here in
      let l = level_is h root sound k this is distinct 0 n c here in
      let f = sound.fits c in
      let w : weight (2 ^ 64 - level_in h k) h k ≡ weight (suc (2 ^ 64 - level_in h c)) h k = ap (λ m. weight m h k) (omega arith) in
      let v = weight_step (2 ^ 64 - level_in h c) h k this.children.entries (ap (λ o. option_map_or (λ (node : Node). node.children.entries) o []) is) in
      let u = ap (sum_of (weight (2 ^ 64 - level_in h c) h)) (from_place this.children.entries 0 (n, c) here) in
      omega (arith, b, w, v, u)

  -- from what is below a child to the child behind it
  sibling_less : (i : ℕ) (n m : Text) (c d : ℕ) → slice_get this.children.entries i ≡ Some (n, c) → slice_get this.children.entries (i + 1) ≡ Some (m, d) → left h d ≤ left_behind h c
  sibling_less i n m c d here there =
      let a = behind_child h root sound k this is distinct i n c here in
      let b = behind_child h root sound k this is distinct (i + 1) m d there in
      let l = level_is h root sound k this is distinct i n c here in
      let j = level_is h root sound k this is distinct (i + 1) m d there in
      let same : weight (2 ^ 64 - level_in h d) h ≡ weight (2 ^ 64 - level_in h c) h = ap (λ x. weight (2 ^ 64 - x) h) (j ∙ sym l) in
      let u = ap (sum_of (weight (2 ^ 64 - level_in h c) h)) (from_place this.children.entries (i + 1) (m, d) there) in
      let e : sum_of (weight (2 ^ 64 - level_in h d) h) (drop (suc (i + 1)) this.children.entries) ≡ sum_of (weight (2 ^ 64 - level_in h c) h) (drop (suc (i + 1)) this.children.entries) = ap (λ f. sum_of f (drop (suc (i + 1)) this.children.entries)) same in
      let w : weight (2 ^ 64 - level_in h d) h d ≡ weight (2 ^ 64 - level_in h c) h d = ap (λ f. f d) same in
      let q : sum_of (weight (2 ^ 64 - level_in h c) h) (drop (suc i) this.children.entries) ≡ sum_of (weight (2 ^ 64 - level_in h c) h) (drop (i + 1) this.children.entries) = ap (λ x. sum_of (weight (2 ^ 64 - level_in h c) h) (drop x this.children.entries)) (sym (add-one i)) in
      omega (arith, a, b, u, e, w, q)

  -- from a child back to its parent
  parent_less : (i : ℕ) (n : Text) (c : ℕ) → slice_get this.children.entries i ≡ Some (n, c) → (left_behind h k ≤ left_behind h c) × (level_in h k < level_in h c)
  parent_less i n c here =
      let b = behind_child h root sound k this is distinct i n c here in
      let l = level_is h root sound k this is distinct i n c here in
      (omega (arith, b), omega arith)

pub behind_less : (h : Heap) (k : ℕ) → left_behind h k < left h k
behind_less h k = let w = two_at_least (2 ^ 64 - level_in h k) h k in omega arith

pub then_less : (h : Heap) (k : ℕ) (r : Option (ℕ × ℕ)) → IfSome r (λ p. left h p.0 ≤ left_behind h k) → IfSome r (λ p. left h p.0 < left h k)
then_less h k None l = tt
then_less h k (Some p) l = let b = behind_less h k in omega arith

module _ (h g : Heap) (root twin : ℕ) (sound : IsSound h root) (twin_sound : IsSound g twin) where
  abbrev Walk : ℕ → ℕ → Type 0
  Walk k t = Reached h g root twin k t

  names_same : {k t i c d : ℕ} (w : Twins h g k t i c d) → keys w.this.children ≡ keys w.that.children
  names_same w = ap (λ (v : NodeView). v.own.children) w.views

  twin_distinct : {k t i c d : ℕ} (w : Twins h g k t i c d) → IsDistinct bytes_eq (keys w.that.children)
  twin_distinct w = subst (IsDistinct bytes_eq) (names_same w) w.distinct

  -- one path leads to both
  pub both_lead : (k t : ℕ) → Walk k t → (p : Path) × (follow h root p ≡ Some k) × (follow g twin p ≡ Some t)
  both_lead k t Tops = ([], follow-nil h root, follow-nil g twin)
  both_lead c d (Children {k = k} {t = t} {i = i} r w) =
      let p = both_lead k t r in (
        p.0 ++ w.name ∷ [],
        then_child h root p.0 w.name k p.1 ∙ child_is h root sound k w.this w.is w.distinct i w.name c w.here,
        then_child g twin p.0 w.name t p.2 ∙ child_is g twin twin_sound t w.that w.twin (twin_distinct w) i w.name d w.there,
      )

  -- what is equal from the roots on is equal where a walk came
  pub views_equal : (k t : ℕ) → Walk k t → SameBelow h g root twin → option_map view_of (h k) ≡ option_map view_of (g t)
  views_equal k t r s =
      let p = both_lead k t r in
      sym (tree-at h root p.0 k p.1) ∙ s p.0 ∙ tree-at g twin p.0 t p.2

  -- the children so far, and one more
  one_more : {k t i c d : ℕ} (w : Twins h g k t i c d) → SameBelow h g c d → SameChildren h g w.this w.that (i + 1)
  one_more {k} {t} {i} {c} {d} w same j n x y less here there = elim (less_cases j i less) [
    | inl before ↦ w.before j n x y before here there
    | inr e ↦
        let first : (n, x) ≡ (w.name, c) = same_Some _ _ (sym here ∙ ap (slice_get w.this.children.entries) e ∙ w.here) in
        let kept_there = kept g twin twin_sound t w.that w.twin (twin_distinct w) i w.name d w.there in
        let second : y ≡ d = same_Some _ _ (sym there ∙ ap (get bytes_eq w.that.children) (ap (λ (z : Text × ℕ). z.0) first) ∙ kept_there) in
        subst (λ z. SameBelow h g z y) (ap (λ (z : Text × ℕ). z.1) (sym first)) (subst (SameBelow h g c) (sym second) same)
  ]

  -- behind two equal subtrees a walk comes to the two siblings behind them
  pub to_siblings : (k t c d : ℕ) → Walk k t → SameBelow h g k t → sibling_in h k ≡ Some c → sibling_in g t ≡ Some d → Walk c d × (left h c ≤ left_behind h k)
  to_siblings k t c d Tops same e f =
      let n : sibling_in h root ≡ None = alone_so h root (unlinked_so h root sound.top) in
      absurd (cc)
  to_siblings a b c d (Children {k = k} {t = t} {i = i} r w) same e f =
      let x = entry_at w.this.children.entries (i + 1) c (sym (sibling_is h root sound k w.this w.is w.distinct i w.name a w.here) ∙ e) in
      let y = entry_at w.that.children.entries (i + 1) d (sym (sibling_is g twin twin_sound t w.that w.twin (twin_distinct w) i w.name b w.there) ∙ f) in
      let names = same_name w.this.children.entries w.that.children.entries (i + 1) x.0 y.0 c d (names_same w) x.1 y.1 in (
        Children {k = k} {t = t} {i = i + 1} {c = c} {d = d} r (record {
          this = w.this;
          that = w.that;
          is = w.is;
          twin = w.twin;
          views = w.views;
          distinct = w.distinct;
          name = x.0;
          here = x.1;
          there = y.1 ∙ ap (λ z. Some (z, d)) (sym names);
          before = one_more w same;
        }),
        sibling_less h root sound k w.this w.is w.distinct i w.name x.0 a c w.here x.1,
      )

  -- what comes of two siblings of which there are not both
  not_both : (x y : Option ℕ) → option_zip x y ≡ None → (x ≡ None) ⊎ (y ≡ None)
  not_both None y e = inl refl
  not_both (Some a) None e = inr refl
  not_both (Some a) (Some b) e = absurd (cc)

  -- where none is left behind a child, all are equal, and so are the parents
  all_done : {k t i c d : ℕ} (w : Twins h g k t i c d) → SameBelow h g c d → option_zip (sibling_in h c) (sibling_in g d) ≡ None → SameBelow h g k t
  all_done {k} {t} {i} {c} {d} w same none =
      let lengths : length w.this.children.entries ≡ length w.that.children.entries = sym (names_length w.this.children.entries) ∙ ap length (names_same w) ∙ names_length w.that.children.entries in
      let end : length w.this.children.entries ≤ i + 1 = elim (not_both (sibling_in h c) (sibling_in g d) none) [
        | inl e ↦ past w.this.children.entries (i + 1) (sym (sibling_is h root sound k w.this w.is w.distinct i w.name c w.here) ∙ e)
        | inr e ↦ let l = past w.that.children.entries (i + 1) (sym (sibling_is g twin twin_sound t w.that w.twin (twin_distinct w) i w.name d w.there) ∙ e) in omega arith
      ] in
      all_same h g k t w.this w.that w.is w.twin w.views (names_same w) (λ j n x y less. one_more w same j n x y (omega arith))

  pub to_parents : (k t c d : ℕ) → Walk k t → SameBelow h g k t → option_zip (sibling_in h k) (sibling_in g t) ≡ None → parent_in h k ≡ Some c → parent_in g t ≡ Some d →
      Walk c d × SameBelow h g c d × (left_behind h c ≤ left_behind h k) × (level_in h c < level_in h k)
  to_parents k t c d Tops same none e f =
      let n : parent_in h root ≡ None = unlinked_so h root sound.top in
      absurd (cc)
  to_parents a b c d (Children {k = k} {t = t} {i = i} r w) same none e f =
      let up : c ≡ k = same_Some _ _ (sym e ∙ parent_is h root sound k w.this w.is w.distinct i w.name a w.here) in
      let twin_up : d ≡ t = same_Some _ _ (sym f ∙ parent_is g twin twin_sound t w.that w.twin (twin_distinct w) i w.name b w.there) in
      let less = parent_less h root sound k w.this w.is w.distinct i w.name a w.here in
      let done = all_done w same none in
      subst (λ z. Walk z d × SameBelow h g z d × (left_behind h z ≤ left_behind h a) × (level_in h z < level_in h a)) (sym up)
      (subst (λ z. Walk k z × SameBelow h g k z × (left_behind h k ≤ left_behind h a) × (level_in h k < level_in h a)) (sym twin_up) (r, done, less.0, less.1))

  -- where there are no parents the walk is over
  pub at_top : (k t : ℕ) → Walk k t → SameBelow h g k t → option_zip (parent_in h k) (parent_in g t) ≡ None → SameBelow h g root twin
  at_top k t Tops same none = same
  at_top a b (Children {k = k} {t = t} {i = i} r w) same none =
      let up = parent_is h root sound k w.this w.is w.distinct i w.name a w.here in
      let twin_up = parent_is g twin twin_sound t w.that w.twin (twin_distinct w) i w.name b w.there in
      let n : option_zip (Some k) (Some t) ≡ None = sym (ap (λ o. option_zip o (parent_in g b)) up ∙ ap (option_zip (Some k)) twin_up) ∙ none in
      absurd (cc)

  -- from two interpreters that are equal by themselves to their first children
  pub to_children : (k t c d : ℕ) → Walk k t → option_map view_of (h k) ≡ option_map view_of (g t) → ((node : Node) → h k ≡ Some node → IsDistinct bytes_eq (keys node.children)) →
      first_in h k ≡ Some c → first_in g t ≡ Some d → Walk c d × (left h c < left h k)
  to_children k t c d r like distinct e f = by (h k) (g t) refl refl
    where
      by : (a b : Option Node) → h k ≡ a → g t ≡ b → Walk c d × (left h c < left h k)
      by None b x y = let n : None ≡ Some c = sym (ap (option_and_then (λ (node : Node). slice_get (values node.children) 0)) x) ∙ e in absurd (cc)
      by (Some this) None x y = let n : None ≡ Some d = sym (ap (option_and_then (λ (node : Node). slice_get (values node.children) 0)) y) ∙ f in absurd (cc)
      by (Some this) (Some that) x y =
          let views : view_of this ≡ view_of that = same_Some _ _ (sym (ap (option_map view_of) x) ∙ like ∙ ap (option_map view_of) y) in
          let p = entry_at this.children.entries 0 c (sym (ap (option_and_then (λ (node : Node). slice_get (values node.children) 0)) x) ∙ e) in
          let q = entry_at that.children.entries 0 d (sym (ap (option_and_then (λ (node : Node). slice_get (values node.children) 0)) y) ∙ f) in
          let names = same_name this.children.entries that.children.entries 0 p.0 q.0 c d (ap (λ (v : NodeView). v.own.children) views) p.1 q.1 in (
            Children {k = k} {t = t} {i = 0} {c = c} {d = d} r (record {
              this = this;
              that = that;
              is = x;
              twin = y;
              views = views;
              distinct = distinct this x;
              name = p.0;
              here = p.1;
              there = q.1 ∙ ap (λ z. Some (z, d)) (sym names);
              before = λ j n z u less. absurd (omega arith);
            }),
            first_less h root sound k this x (distinct this x) p.0 c p.1,
          )

  -- two interpreters without children that are equal by themselves
  pub leaves : (k t : ℕ) → option_map view_of (h k) ≡ option_map view_of (g t) → option_zip (first_in h k) (first_in g t) ≡ None → SameBelow h g k t
  leaves k t like none = by (h k) (g t) refl refl
    where
      by : (a b : Option Node) → h k ≡ a → g t ≡ b → SameBelow h g k t
      by None None x y = λ q. nowhere h k x q ∙ sym (nowhere g t y q)
      by None (Some that) x y = let n : None ≡ Some (view_of that) = sym (ap (option_map view_of) x) ∙ like ∙ ap (option_map view_of) y in absurd (cc)
      by (Some this) None x y = let n : Some (view_of this) ≡ None = sym (ap (option_map view_of) x) ∙ like ∙ ap (option_map view_of) y in absurd (cc)
      by (Some this) (Some that) x y =
          let views : view_of this ≡ view_of that = same_Some _ _ (sym (ap (option_map view_of) x) ∙ like ∙ ap (option_map view_of) y) in
          let names : keys this.children ≡ keys that.children = ap (λ (v : NodeView). v.own.children) views in
          let lengths : length this.children.entries ≡ length that.children.entries = sym (names_length this.children.entries) ∙ ap length names ∙ names_length that.children.entries in
          let end : length this.children.entries ≤ 0 = elim (not_both (first_in h k) (first_in g t) none) [
            | inl e ↦ past this.children.entries 0 (sym (ap (option_and_then (λ (node : Node). slice_get (values node.children) 0)) x) ∙ e)
            | inr e ↦ let l = past that.children.entries 0 (sym (ap (option_and_then (λ (node : Node). slice_get (values node.children) 0)) y) ∙ e) in omega arith
          ] in
          all_same h g k t this that x y views names (λ j n z u less. absurd (omega arith))
