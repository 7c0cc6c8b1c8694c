use Rattle.std.proofs.Common.{◌∙◌, reverse}
use Rattle.tcl_frames.proofs.ChainLemmas.{sound_push, sound_kept}
use Rattle.tcl_frames.proofs.frames.Frames.push.Goals as goal

pub invariant_of-self-in_err-push : goal.invariant_of-self-in_err-push
invariant_of-self-in_err-push c =
    sound_kept c.self.inside.frames.items c.push.new.self.items (reverse c.self.inside.aside.items) c.self.inside.frames.cap c.push.new.self.cap c.in_err-push.ensures.items c.in_err-push.ensures.capacity c.self.invariant

pub invariant_of-self-2 : goal.invariant_of-self-2
invariant_of-self-2 c =
    sound_push c.self.inside.frames.items c.push.new.self.items c.set_words.new.self (reverse c.self.inside.aside.items) c.args.words.items c.self.inside.frames.cap c.push.new.self.cap
    c.in_ok-push.ensures.items c.set_words.ensures.words (c.set_words.ensures.variables ∙ c.in_ok-frame.ensures.variables) c.in_ok-push.ensures.capacity c.self.invariant
