use Rattle.std.proofs.Common.{◌≡◌, drop}
use Rattle.tcl_frames.specs.Names.{is_simple}
use Rattle.tcl_frames.proofs.name.is_simple.Given as goal

abbrev pub invariant-loop-b : goal.invariant-loop-b
invariant-loop-b l = is_simple l.name ≡ is_simple (drop l.b-index l.name)
