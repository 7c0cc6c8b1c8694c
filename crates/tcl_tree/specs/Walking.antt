-- Walks through two tables at once: an interpreter, what is below it, and then what comes behind
-- it.
use Rattle.std.specs.Prelude.{◌≡◌, ℕ, zero, suc, ◌+◌, ◌-◌, ◌^◌, ◌<◌, List, [], ◌∷◌, drop, Option}
use Rattle.std.specs.Prelude.{Some, slice_get}
use Rattle.std.specs.Option.{option_and_then, option_map_or}
use Rattle.std.specs.List.{IsDistinct}
use Rattle.std.specs.Str.{bytes_eq}
use Rattle.indexmap.specs.IndexMap.{get, index_of, keys, values}
use Rattle.tcl_interpreter.specs.Paths.{Text, Path}
use Rattle.tcl_tree.specs.Nodes.{Heap, tree_in, view_of, level_in}
use Rattle.tcl_interpreter.specs.declared.node.Node.{Node}

-- the child that comes first
abbrev pub first_in : Heap → ℕ → Option ℕ
first_in h k = option_and_then (λ node. slice_get (values node.children) 0) (h k)

-- the parent
abbrev pub parent_in : Heap → ℕ → Option ℕ
parent_in h k = option_and_then (λ node. node.parent) (h k)

-- the child that comes behind the one of this name
abbrev pub behind_in : Heap → ℕ → Text → Option ℕ
behind_in h k n = option_and_then
    (λ node. option_and_then (λ i. slice_get (values node.children) (i + 1))
    (index_of bytes_eq node.children n)) (h k)

-- the child of the same parent that comes behind
abbrev pub sibling_in : Heap → ℕ → Option ℕ
sibling_in h k = option_and_then
    (λ node. option_and_then (λ p. behind_in h p node.name) node.parent) (h k)

-- the subtrees at two keys are equal
abbrev pub SameBelow : Heap → Heap → ℕ → ℕ → Type 0
SameBelow h g k t = (q : Path) → tree_in h k q ≡ tree_in g t q

-- so are those of the first so many children
abbrev pub SameChildren : Heap → Heap → Node → Node → ℕ → Type 0
SameChildren h g this that count = (i : ℕ) (n : Text) (c d : ℕ) → i < count →
    slice_get this.children.entries i ≡ Some (n, c)
    → get bytes_eq that.children n ≡ Some d → SameBelow h g c d

-- two interpreters that are equal by themselves have these children at the same place, and what is
-- below the children before them is equal
pub record Twins (h g : Heap) (k t i c d : ℕ) : Type 0 where
  pub this : Node
  pub that : Node
  pub is : h k ≡ Some this
  pub twin : g t ≡ Some that
  pub views : view_of this ≡ view_of that
  pub distinct : IsDistinct bytes_eq (keys this.children)
  pub name : Text
  pub here : slice_get this.children.entries i ≡ Some (name, c)
  pub there : slice_get that.children.entries i ≡ Some (name, d)
  pub before : SameChildren h g this that i

-- A walk from two roots has come to two keys, and all that it came by is equal.
pub data Reached (h g : Heap) (root twin : ℕ) : ℕ → ℕ → Type 0 where
  Tops : Reached h g root twin root twin
  Children : {k t i c d : ℕ} → Reached h g root twin k t → Twins h g k t i c d →
      Reached h g root twin c d

-- ## How much of a walk is left

abbrev pub entries_in : Heap → ℕ → List (Text × ℕ)
entries_in h k = option_map_or (λ node. node.children.entries) (h k) []

-- those behind the one of this name
abbrev pub entries_behind : Heap → ℕ → Text → List (Text × ℕ)
entries_behind h k n = option_map_or
    (λ node. option_map_or (λ i. drop (suc i) node.children.entries)
    (index_of bytes_eq node.children n) []) (h k) []

abbrev pub sum_of : (ℕ → ℕ) → List (Text × ℕ) → ℕ
sum_of f [] = 0
sum_of f (e ∷ es) = f e.1 + sum_of f es

-- what is at a key and so many levels below it: two for each interpreter
unfoldable pub weight : ℕ → Heap → ℕ → ℕ
weight zero h k = 2
weight (suc m) h k = 2 + sum_of (weight m h) (entries_in h k)

-- the parent with the name
abbrev pub link_above : Heap → ℕ → Option (ℕ × Text)
link_above h k = option_and_then
    (λ node. option_and_then (λ p. Some (p, node.name)) node.parent) (h k)

-- what comes behind a key so many levels down, and behind those above it, where there are so many
-- levels in all: the weights, and one for each level
unfoldable pub weight_behind : ℕ → ℕ → Heap → ℕ → ℕ
weight_behind all zero h k = 0
weight_behind all (suc level) h k = option_map_or
    (λ l. 1 + sum_of (weight (all - suc level) h) (entries_behind h l.0 l.1) + weight_behind all
    level h l.0) (link_above h k) 0

-- what of a walk is left behind a key, and what from there on
abbrev pub left_behind : Heap → ℕ → ℕ
left_behind h k = weight_behind (2 ^ 64) (level_in h k) h k

abbrev pub left : Heap → ℕ → ℕ
left h k = weight (2 ^ 64 - level_in h k) h k + left_behind h k
