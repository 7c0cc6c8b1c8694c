use Rattle.std.proofs.Common.{◌≡◌, take}
use Rattle.tcl_frames.proofs.comparing.NameMapSame.same.Given as goal

abbrev pub invariant-entries : goal.invariant-entries
invariant-entries g l = take l.index l.self ≡ take l.index l.other
