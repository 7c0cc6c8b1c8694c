use Rattle.std.proofs.Common.{◌≡◌, ◌++◌, drop}
use Rattle.std.specs.String.{string_bytes}
use Rattle.tcl_player.specs.Lines.{lines}
use Rattle.tcl_player.proofs.lines.crossing_lines.Given as goal

abbrev pub invariant-crossings : goal.invariant-crossings
invariant-crossings l = string_bytes l.text ++ lines (drop l.crossing-index l.crossings) ≡ lines l.crossings
