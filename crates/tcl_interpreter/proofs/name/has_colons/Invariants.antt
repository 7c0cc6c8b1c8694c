use Rattle.std.proofs.Common.{◌≡◌, drop, ◌&&◌}
use Rattle.std.specs.Prelude.{◌||◌}
use Rattle.tcl_interpreter.specs.Names.{has_colons, is_colon}
use Rattle.tcl_interpreter.proofs.name.has_colons.Given as goal

-- whether two colons begin at the byte before, or later
abbrev pub invariant-scan : goal.invariant-scan
invariant-scan l = has_colons l.bytes ≡ ((l.after_colon && is_colon (drop l.byte-index l.bytes)) || has_colons (drop l.byte-index l.bytes))
