use Rattle.std.proofs.Common.{◌∙◌, ◌∷◌, ◌++◌, List, ap, reverse}
use Rattle.tcl_frames.proofs.ChainLemmas.{sound_push, sound_kept}
use Rattle.tcl_frames.specs.Names.{Text}
use Rattle.tcl_frames.proofs.frames.Frames.push_call.Goals as goal

pub invariant_of-self-in_err-push : goal.invariant_of-self-in_err-push
invariant_of-self-in_err-push c =
    sound_kept c.self.inside.frames.items c.push.new.self.items (reverse c.self.inside.aside.items) c.self.inside.frames.cap c.push.new.self.cap c.in_err-push.ensures.items c.in_err-push.ensures.capacity c.self.invariant

pub invariant_of-self-2 : goal.invariant_of-self-2
invariant_of-self-2 c =
    let words = c.args.word.now ∷ c.args.args.now in
    sound_push c.self.inside.frames.items c.push.new.self.items c.add_call.new.self (reverse c.self.inside.aside.items) words c.self.inside.frames.cap c.push.new.self.cap
    c.in_ok-push.ensures.items (c.in_ok-add_call.ensures.words ∙ ap (λ (ws : List Text). ws ++ words) c.in_ok-frame.ensures.words) (c.add_call.ensures.variables ∙ c.in_ok-frame.ensures.variables) c.in_ok-push.ensures.capacity c.self.invariant
