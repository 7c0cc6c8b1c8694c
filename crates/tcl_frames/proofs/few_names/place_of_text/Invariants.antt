use Rattle.std.proofs.Common.{◌≡◌, None, take}
use Rattle.std.specs.Map.{lookup}
use Rattle.std.specs.Str.{bytes_eq}
use Rattle.tcl_frames.proofs.few_names.place_of_text.Given as goal

abbrev pub invariant-entries : goal.invariant-entries
invariant-entries g l = lookup (bytes_eq l.name) (take l.index l.entries) ≡ None
