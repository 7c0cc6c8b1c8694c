-- What holds of the interpreters of every tree.
use Rattle.std.specs.Prelude.{◌≡◌, ◌≤◌, Option, Some}
use Rattle.tcl_interpreter.specs.Paths.{Path}
use Rattle.tcl_tree.specs.Nodes.{NodeView}
use Rattle.tcl_tree.specs.Changes.{most_depth}

pub record IsFormed (f : Path → Option NodeView) : Type 0 where
  -- each limit of depth is from 1 to the greatest
  pub least : (p : Path) (v : NodeView) → f p ≡ Some v → 1 ≤ v.depth_limit
  pub most : (p : Path) (v : NodeView) → f p ≡ Some v → v.depth_limit ≤ most_depth
