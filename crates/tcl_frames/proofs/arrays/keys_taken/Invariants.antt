use Rattle.std.proofs.Common.{◌≡◌, ◌++◌, drop}
use Rattle.std.specs.Map.{keys_of}
use Rattle.std.specs.Option.{option_copied}
use Rattle.tcl_frames.specs.VariableArrays.{taken}
use Rattle.tcl_frames.proofs.arrays.keys_taken.Given as goal

abbrev pub invariant-keys : goal.invariant-keys
invariant-keys l = l.keys.items ++ keys_of (taken (option_copied l.pattern) (drop l.index l.elements)) ≡ keys_of (taken (option_copied l.pattern) l.elements)
