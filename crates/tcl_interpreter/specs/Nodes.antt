-- What a contract sees of an interpreter, and of one more or one less in a table.
use Rattle.std.specs.Prelude.{◌≡◌, ◌≢◌, ℕ, suc, pred, Bool, true, false, cond, List, [], ◌∷◌, ◌++◌}
use Rattle.std.specs.Prelude.{Option, Some, None, ◌==◌, ◌<◌, ◌≤◌}
use Rattle.std.specs.Option.{option_map}
use Rattle.std.specs.Str.{bytes_eq}
use Rattle.indexmap.specs.IndexMap.{get, keys}
use Rattle.slab.specs.Slab as slab
use Rattle.slab.specs.Slab.{Slab}
use Rattle.tcl_core.specs.Trees as core
use Rattle.tcl_core.specs.Programs.{is_spent, is_deep}
use Rattle.tcl_interpreter.specs.Paths.{Text}
use Rattle.tcl_interpreter.specs.Own.{Own, new_own, with_new_child, without_old_child}
use Rattle.tcl_interpreter.specs.declared.node.Node.{Node}
use Rattle.tcl_interpreter.specs.declared.node.State.{State}
use Rattle.tcl_interpreter.specs.declared.node.Meter.{Meter}
use Rattle.tcl_interpreter.specs.declared.node.Meter.TheVariants.{Steps, Levels, Back}

-- an interpreter as contracts see it: with no keys
abbrev pub NodeView : Type 0
NodeView = core.Node Own

abbrev pub own_view : State → List Text → Own
own_view s names = record {
  chain = s.frames;
  commands = s.commands.entries;
  hidden = s.hidden.entries;
  children = names;
}

abbrev pub state_view : State → List Text → NodeView
state_view s names = record {
  own = own_view s names;
  safe = s.safe;
  root = s.root;
  count = s.count;
  limit = s.limit;
  depth = s.depth;
  depth_limit = s.depth_limit;
}

abbrev pub view_of : Node → NodeView
view_of node = state_view node.state (keys node.children)

-- a new interpreter, the root of its tree or not, with this limit of depth and these children
abbrev pub new_view : Bool → Bool → ℕ → List Text → NodeView
new_view safe top depth_limit names = record {
  own = record (new_own safe) { children = names };
  safe = safe;
  root = top;
  count = 0;
  limit = None;
  depth = 0;
  depth_limit = depth_limit;
}

-- a meter that may not be moved, and one that was
abbrev pub full_of : Meter → NodeView → Bool
full_of Steps n = is_spent n
full_of Levels n = is_deep n
full_of Back n = false

abbrev pub moved : Meter → NodeView → NodeView
moved Steps n = record n { count = suc n.count }
moved Levels n = record n { depth = suc n.depth }
moved Back n = record n { depth = pred n.depth }

abbrev pub with_child : Text → NodeView → NodeView
with_child n v = record v { own = with_new_child n v.own }

abbrev pub without_child : Text → NodeView → NodeView
without_child n v = record v { own = without_old_child n v.own }

-- a node but for the room of its maps
abbrev pub Shape : Type 0
Shape = Option ℕ × Text × ℕ × List (Text × ℕ) × NodeView × Bool

abbrev pub shape_of : Node → Shape
shape_of node = (
  node.parent,
  node.name,
  node.level,
  node.children.entries,
  state_view node.state
      [],
  node.gone,
)

abbrev pub shape_at : Slab Node → ℕ → Option Shape
shape_at s k = option_map shape_of (slab.get s k)

-- the two differ in room alone
abbrev pub SameTable : Slab Node → Slab Node → Type 0
SameTable s t = (k : ℕ) → shape_at t k ≡ shape_at s k

-- t is s with the node under a new key, and under the label among the children of the node at pk
pub record Attached (s t : Slab Node) (pk : ℕ) (label : Text) (node : Node) : Type 0 where
  pub key : ℕ
  pub was : slab.get s key ≡ None
  pub here : slab.get t key ≡ Some node
  pub old : Node
  pub old_is : slab.get s pk ≡ Some old
  pub new : Node
  pub new_is : slab.get t pk ≡ Some new
  pub parent : new.parent ≡ old.parent
  pub name : new.name ≡ old.name
  pub level : new.level ≡ old.level
  pub stands : new.gone ≡ old.gone
  pub view : view_of new ≡ with_child label (view_of old)
  pub gets : (q : Text) → get bytes_eq new.children q
      ≡ cond (bytes_eq label q) (Some key) (get bytes_eq old.children q)
  pub others : (k : ℕ) → k ≢ pk → k ≢ key → slab.get t k ≡ slab.get s k

-- t is s with the node under a new key, and under the label among the children of the node at pk,
-- whatever else that has
pub record Joined (s t : Slab Node) (pk : ℕ) (label : Text) (node : Node) (key : ℕ) : Type 0 where
  pub was : slab.get s key ≡ None
  pub here : slab.get t key ≡ Some node
  pub old : Node
  pub old_is : slab.get s pk ≡ Some old
  pub new : Node
  pub new_is : slab.get t pk ≡ Some new
  pub parent : new.parent ≡ old.parent
  pub name : new.name ≡ old.name
  pub level : new.level ≡ old.level
  pub stands : new.gone ≡ old.gone
  pub safe : new.state.safe ≡ old.state.safe
  pub depth : new.state.depth ≡ old.state.depth
  pub names : keys new.children ≡ keys old.children ++ label ∷ []
  pub gets : (q : Text) → get bytes_eq new.children q
      ≡ cond (bytes_eq label q) (Some key) (get bytes_eq old.children q)
  pub others : (k : ℕ) → k ≢ pk → k ≢ key → slab.get t k ≡ slab.get s k

-- t is s with no node under the key, and none of its name among the children of the node at pk
pub record Detached (s t : Slab Node) (key : ℕ) (node : Node) (pk : ℕ) : Type 0 where
  pub gone : slab.get t key ≡ None
  pub old : Node
  pub old_is : slab.get s pk ≡ Some old
  pub new : Node
  pub new_is : slab.get t pk ≡ Some new
  pub parent : new.parent ≡ old.parent
  pub name : new.name ≡ old.name
  pub level : new.level ≡ old.level
  pub stands : new.gone ≡ old.gone
  pub view : view_of new ≡ without_child node.name (view_of old)
  pub gets : (q : Text) → get bytes_eq new.children q
      ≡ cond (bytes_eq node.name q) None (get bytes_eq old.children q)
  pub others : (k : ℕ) → k ≢ pk → k ≢ key → slab.get t k ≡ slab.get s k

-- What is left of a node that is taken out of the tree: where an evaluation is in progress in it,
-- the node, which is gone; else nothing.
abbrev pub left_by : Bool → Node → Option Node
left_by true node = None
left_by false node = Some (record node { gone = true })

abbrev pub left_of : Node → Option Node
left_of node = left_by (node.state.depth == 0) node

-- t is s with that of the node under the key
pub record Departed (s t : Slab Node) (key : ℕ) (node : Node) (pk : ℕ) : Type 0 where
  pub middle : Slab Node
  pub out : Detached s middle key node pk
  pub left : slab.Updates middle t key (left_of node)

-- a node with one level of depth less, in the same place
pub record IsEased (old new : Node) : Type 0 where
  pub parent : new.parent ≡ old.parent
  pub name : new.name ≡ old.name
  pub level : new.level ≡ old.level
  pub children : new.children.entries ≡ old.children.entries
  pub gone : new.gone ≡ old.gone
  pub depth : new.state.depth ≡ pred old.state.depth

-- t is s with that under the key; with nothing where that was the node's last level
pub record Eased (s t : Slab Node) (key : ℕ) (node : Node) : Type 0 where
  pub last : node.state.depth ≤ 1 → slab.get t key ≡ None
  pub less : 1 < node.state.depth → (new : Node) × (slab.get t key ≡ Some new) × IsEased node new
  pub others : (k : ℕ) → k ≢ key → slab.get t k ≡ slab.get s k
