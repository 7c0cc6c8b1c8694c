-- What a contract sees of a table of interpreters.
use Rattle.std.specs.Prelude.{◌≡◌, ℕ, ◌+◌, ◌^◌, ◌<◌, ◌≤◌, ◌&&◌, Bool, true, false, cond, nat_lt}
use Rattle.std.specs.Prelude.{List, [], ◌∷◌, ◌++◌, length, Option, Some, None, IfSome}
use Rattle.std.specs.Option.{option_and_then, option_map, option_map_or}
use Rattle.std.specs.Str.{bytes_eq}
use Rattle.indexmap.specs.IndexMap.{get, keys}
use Rattle.std.specs.Map.{keys_of}
use Rattle.slab.specs.Slab as slab
use Rattle.slab.specs.Slab.{Slab}
use Rattle.tcl_interpreter.specs.Paths.{Text, Path, is_above, ancestor, with_node}
pub use Rattle.tcl_interpreter.specs.Nodes.{NodeView, own_view, state_view, view_of, new_view}
pub use Rattle.tcl_interpreter.specs.Nodes.{full_of, moved, with_child, without_child, Shape}
pub use Rattle.tcl_interpreter.specs.Nodes.{shape_of, shape_at, SameTable, Attached, Joined}
pub use Rattle.tcl_interpreter.specs.Nodes.{Detached}
use Rattle.tcl_interpreter.specs.declared.node.Node.{Node}
use Rattle.tcl_interpreter.specs.declared.node.Meter.{Meter}

-- what stands at each key
abbrev pub Heap : Type 0
Heap = ℕ → Option Node

-- the key of the child of this name
unfoldable pub child_in : Heap → ℕ → Text → Option ℕ
child_in h k n = option_and_then (λ node. get bytes_eq node.children n) (h k)

-- the key that the names lead to
unfoldable pub follow : Heap → ℕ → Path → Option ℕ
follow h k [] = Some k
follow h k (n ∷ ns) = option_and_then (λ c. follow h c ns) (child_in h k n)

-- the interpreters by their paths
unfoldable pub tree_in : Heap → ℕ → Path → Option NodeView
tree_in h root p = option_and_then (λ k. option_map view_of (h k)) (follow h root p)

-- the key of the parent, with the name among its children
abbrev pub link_of : Node → Option (ℕ × Text)
link_of node = option_map (λ k. (k, node.name)) node.parent

unfoldable pub link_in : Heap → ℕ → Option (Option (ℕ × Text))
link_in h k = option_map link_of (h k)

unfoldable pub level_in : Heap → ℕ → ℕ
level_in h k = option_map_or (λ node. node.level) (h k) 0

-- children have their parents, and the root is the one node with no parent
pub record IsSound (h : Heap) (root : ℕ) : Type 0 where
  pub top : link_in h root ≡ Some None
  pub down : (k : ℕ) (n : Text) (c : ℕ) → child_in h k n ≡ Some c → link_in h c ≡ Some (Some (k, n))
  pub alone : (c : ℕ) → link_in h c ≡ Some None → c ≡ root
  pub levels : (k : ℕ) (n : Text) (c : ℕ) → child_in h k n ≡ Some c → level_in h c ≡ level_in
      h k + 1
  pub fits : (k : ℕ) → level_in h k < 2 ^ 64

-- whether the interpreter is safe, and how many children it has
unfoldable pub safe_in : Heap → ℕ → Bool
safe_in h k = option_map_or (λ node. node.state.safe) (h k) false

unfoldable pub children_in : Heap → ℕ → ℕ
children_in h k = option_map_or (λ node. length (keys node.children)) (h k) 0

-- a child of a safe interpreter is safe, and none has more than 256 children
pub record IsGuarded (h : Heap) : Type 0 where
  pub safe : (k : ℕ) (n : Text) (c : ℕ) → child_in h k n ≡ Some c → safe_in h k ≡ true → safe_in
      h c ≡ true
  pub few : (k : ℕ) → children_in h k ≤ 256

abbrev pub Tree_fn : Type 0
Tree_fn = Path → Option NodeView

-- the tree with one more interpreter, or one less, whose name the parent has
unfoldable pub grown : Tree_fn → Path → Text → NodeView → Tree_fn
grown f p n v = with_node (with_node f p (option_map (with_child n) (f p))) (p ++ n ∷ []) (Some v)

unfoldable pub pruned : Tree_fn → Path → Text → Tree_fn
pruned f p n = with_node (with_node f p (option_map (without_child n) (f p))) (p ++ n ∷ []) None

unfoldable pub deleted : Tree_fn → Path → Text → Tree_fn
deleted f p n q = cond (is_above (p ++ n ∷ []) q) None
    (with_node f p (option_map (without_child n) (f p)) q)

unfoldable pub charged : (NodeView → NodeView) → Tree_fn → Path → Tree_fn
charged once f p q = cond (is_above q p) (option_map once (f q)) (f q)

abbrev pub view_shape : Shape → NodeView
view_shape shape = record shape.4 { own = record shape.4.own { children = keys_of shape.3 } }

-- the node at the key has no children
abbrev pub IsLeaf : Slab Node → ℕ → Type 0
IsLeaf s key = IfSome (slab.get s key) (λ node. node.children.entries ≡ [])

-- whether the node is full that is so many levels above the one at the path
unfoldable pub full_up : (NodeView → Bool) → Tree_fn → Path → ℕ → Bool
full_up full f p level = option_map_or full (f (ancestor p level)) false

-- the node so many levels up is full, and none below it is
pub record IsNearestFull (full : NodeView → Bool) (f : Tree_fn) (p : Path) (level : ℕ) : Type 0
  where
    pub within : level ≤ length p
    pub here : full_up full f p level ≡ true
    pub below : (m : ℕ) → m < level → full_up full f p m ≡ false

-- no node above the path is full, nor the one there
abbrev pub NoneFull : (NodeView → Bool) → Tree_fn → Path → Type 0
NoneFull full f p = (m : ℕ) → m ≤ length p → full_up full f p m ≡ false

-- what there is of a node but for its meters, its own part and the room of its maps
abbrev pub place_of : Node → Option ℕ × Text × ℕ × List (Text × ℕ) × Bool × Bool
place_of node = (
  node.parent,
  node.name,
  node.level,
  node.children.entries,
  node.state.safe,
  node.gone,
)

-- the meter was moved at the path and above it, and nothing else changed
pub record Raised (meter : Meter) (h h₁ : Heap) (root : ℕ) (p : Path) : Type 0 where
  pub tree : (q : Path) → tree_in h₁ root q ≡ charged (moved meter) (tree_in h root) p q
  pub places : (k : ℕ) → option_map place_of (h₁ k) ≡ option_map place_of (h k)
  pub others : (k : ℕ) → ((q : Path) → is_above q p ≡ true → follow h root q ≡ Some k → ⊥) →
      h₁ k ≡ h k

-- the tree in which the lowest so many nodes above the path are charged
unfoldable pub charged_below : (NodeView → NodeView) → Tree_fn → Path → ℕ → Tree_fn
charged_below once f p count q = cond (is_above q p && nat_lt (length p) (length q + count))
    (option_map once (f q)) (f q)
