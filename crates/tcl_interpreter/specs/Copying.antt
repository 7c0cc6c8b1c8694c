-- Copies of an interpreter.
use Rattle.std.specs.Prelude.{◌≡◌, ℕ, false, List, [], Option}
use Rattle.tcl_interpreter.specs.Paths.{Text}
use Rattle.tcl_interpreter.specs.Nodes.{state_view}
use Rattle.tcl_interpreter.specs.declared.node.Node.{Node}

-- a node that has what another has, but no children, and its own parent and name
pub record IsBare (old made : Node) (above : Option ℕ) (label : Text) : Type 0 where
  pub parent : made.parent ≡ above
  pub name : made.name ≡ label
  pub level : made.level ≡ old.level
  pub stands : made.gone ≡ false
  pub leaf : made.children.entries ≡ []
  pub state : (names : List Text) → state_view made.state names ≡ state_view old.state names
