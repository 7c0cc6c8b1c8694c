-- A table as the tree that it holds.
use Rattle.std.specs.Prelude.{◌≡◌, ℕ, Bool, true, false, [], ◌∷◌, Option, Some, None}
use Rattle.slab.specs.Slab.{get, Slab}
use Rattle.tcl_interpreter.specs.declared.node.Node.{Node}
use Rattle.tcl_text.specs.declared.integer.Integers.{Integers}
use Rattle.tcl_interpreter.specs.Paths.{Path}
use Rattle.tcl_interpreter.specs.Own.{new_own}
use Rattle.tcl_tree.specs.Nodes.{NodeView, tree_in, follow}
use Rattle.tcl_tree.specs.declared.tree.Tree.{Tree}
use Rattle.tcl_tree.specs.declared.tree.Place.{Place}

-- the interpreter at each path
abbrev pub tree_of : Tree → Path → Option NodeView
tree_of t = tree_in (get t.nodes) t.root

-- the key at a path
abbrev pub key_of : Tree → Path → Option ℕ
key_of t = follow (get t.nodes) t.root

-- the path leads to the interpreter that the place names
abbrev pub Names : Tree → Place → Path → Type 0
Names t place p = key_of t p ≡ Some place.key

-- The table, whose keys the tree follows: `key_of` is where its names lead from the key of the
-- root.
abbrev pub table_of : Tree → Slab Node
table_of t = t.nodes

-- what a tree has besides its interpreters: how integer texts are read, and whether it is broken
pub record Marks : Type 0 where
  pub integers : Integers
  pub broken : Bool

abbrev pub marks_of : Tree → Marks
marks_of t = record { integers = t.integers; broken = t.broken }

-- the tree of one interpreter
abbrev pub alone : NodeView → Path → Option NodeView
alone n [] = Some n
alone n (x ∷ p) = None

-- the root of a new tree
abbrev pub new_root : NodeView
new_root = record {
  own = new_own false;
  safe = false;
  root = true;
  count = 0;
  limit = None;
  depth = 0;
  depth_limit = 1000;
}
