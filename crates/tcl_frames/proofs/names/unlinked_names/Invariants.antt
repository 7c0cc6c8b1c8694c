use Rattle.std.proofs.Common.{◌≡◌, ◌++◌, drop}
use Rattle.tcl_frames.specs.Chain.{names_own}
use Rattle.tcl_frames.proofs.names.unlinked_names.Given as goal

abbrev pub invariant-names : goal.invariant-names
invariant-names l = l.names.items ++ names_own (drop l.index l.variables) ≡ names_own l.variables
