use Rattle.std.proofs.Common.{◌≡◌, take}
use Rattle.tcl_recorder.specs.Crossings.{events_of}
use Rattle.tcl_serve.specs.Keeping.{lines_in}
use Rattle.tcl_serve.proofs.keeping.lines_of.Given as goal

abbrev pub invariant-crossings : goal.invariant-crossings
invariant-crossings l = l.lines.items ≡ lines_in (events_of (take l.crossing-index l.crossings))
