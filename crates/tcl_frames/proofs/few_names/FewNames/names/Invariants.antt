use Rattle.std.proofs.Common.{◌≡◌, map, take}
use Rattle.std.specs.Map.{keys_of}
use Rattle.std.specs.String.{string_bytes}
use Rattle.tcl_frames.proofs.few_names.FewNames.names.Given as goal

abbrev pub invariant-names : goal.invariant-names
invariant-names g l = map string_bytes l.names.items ≡ keys_of (take l.index l.self-inside.entries.items)
