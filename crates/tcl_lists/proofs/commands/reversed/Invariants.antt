use Rattle.std.proofs.Common.{◌≡◌, take}
use Rattle.std.specs.Prelude.{reverse}
use Rattle.tcl_lists.proofs.commands.reversed.Given as goal

abbrev pub invariant-elements : goal.invariant-elements
invariant-elements l = l.made ≡ take l.index (reverse l.list)
