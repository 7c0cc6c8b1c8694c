use Rattle.std.proofs.Common.{◌≡◌, ◌++◌, drop}
use Rattle.std.specs.Option.{option_copied}
use Rattle.tcl_frames.specs.VariableArrays.{taken}
use Rattle.tcl_frames.proofs.arrays.elements_taken.Given as goal

abbrev pub invariant-pairs : goal.invariant-pairs
invariant-pairs l = l.pairs.items ++ taken (option_copied l.pattern) (drop l.index l.elements) ≡ taken (option_copied l.pattern) l.elements
