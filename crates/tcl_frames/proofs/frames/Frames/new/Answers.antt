use Rattle.tcl_frames.proofs.ChainLemmas.{sound_new}
use Rattle.tcl_frames.proofs.frames.Frames.new.Goals as goal

pub invariant_of-result : goal.invariant_of-result
invariant_of-result c =
    sound_new c.push.new.self.items c.new-frames.result.items c.new-2.result c.new-3.result.items c.new.result.items c.push.new.self.cap
    c.in_ok-push.ensures.items c.new-frames.ensures.items c.new-2.ensures.words c.new.ensures.items c.new-2.ensures.variables c.new-3.ensures.items
