use Rattle.std.proofs.Common.{◌≡◌, ◌++◌, drop}
use Rattle.tcl_frames.specs.Chain.{names_held}
use Rattle.tcl_frames.proofs.names.held_names.Given as goal

abbrev pub invariant-names : goal.invariant-names
invariant-names l = l.names.items ++ names_held l.frames l.level (drop l.index l.variables) ≡ names_held l.frames l.level l.variables
