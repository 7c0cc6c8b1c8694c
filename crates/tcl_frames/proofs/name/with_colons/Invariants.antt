use Rattle.std.proofs.Common.{◌≡◌, drop}
use Rattle.tcl_frames.specs.Names.{colons_after, has_colons}
use Rattle.tcl_frames.proofs.name.with_colons.Given as goal

abbrev pub invariant-loop-b : goal.invariant-loop-b
invariant-loop-b l = has_colons l.name ≡ colons_after l.after_colon (drop l.b-index l.name)
