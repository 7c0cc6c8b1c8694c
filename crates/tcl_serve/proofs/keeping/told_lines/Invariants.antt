use Rattle.std.proofs.Common.{◌≡◌, ◌++◌, drop}
use Rattle.tcl_recorder.specs.Crossings.{events_of}
use Rattle.tcl_serve.specs.Keeping.{lines_in, outward}
use Rattle.tcl_serve.proofs.keeping.told_lines.Given as goal

abbrev pub invariant-crossings : goal.invariant-crossings
invariant-crossings l = lines_in (outward (events_of l.crossings)) ≡ l.lines.items ++ lines_in (outward (events_of (drop l.crossing-index l.crossings)))
