use Rattle.std.proofs.Common.{◌≡◌, ℕ, suc, ◌+◌, ◌<◌, ◌^◌, false}
use Rattle.std.specs.Prelude.{IsSome}
use Rattle.slab.specs.Slab.{get}
use Rattle.tcl_tree.specs.Nodes.{level_in}
use Rattle.tcl_tree.specs.Held.{gone_at, HighestGone}
use Rattle.tcl_tree.specs.Gone.{held_of}
use Rattle.tcl_tree.proofs.tree.Tree.is_gone.Given as goal

-- so many levels were climbed from the place up to the one below this key
abbrev pub invariant-climb : goal.invariant-climb
invariant-climb l = record {
  there : IsSome (held_of l.self l.at);
  fits : l.levels + level_in (get l.self.nodes) l.at < 2 ^ 64;
  last : gone_at (held_of l.self l.at) ≡ false → HighestGone (held_of l.self) l.fn.place.key l.levels;
  more : (m : ℕ) → HighestGone (held_of l.self) l.at m → HighestGone (held_of l.self) l.fn.place.key (suc (l.levels + m));
}

abbrev pub decreases-climb : goal.decreases-climb
decreases-climb l = level_in (get l.self.nodes) l.at
