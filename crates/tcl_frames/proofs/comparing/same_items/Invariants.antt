use Rattle.std.proofs.Common.{◌≡◌, take}
use Rattle.tcl_frames.proofs.comparing.same_items.Given as goal

abbrev pub invariant-items : goal.invariant-items
invariant-items g l = take l.index l.these ≡ take l.index l.those
