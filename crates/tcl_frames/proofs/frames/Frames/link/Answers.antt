use Rattle.std.proofs.Common.{◌≡◌, sym, ap, arith, reverse, length, subst}
use Rattle.tcl_frames.specs.Sound.{AreFit}
use Rattle.tcl_frames.specs.Chain.{linked}
use Rattle.tcl_frames.proofs.ChainLemmas.{chain, sound_positive, whole_again, fit_either, sound_changed}
use Rattle.tcl_frames.proofs.LinkLemmas.{linked_fit}
use Rattle.tcl_frames.proofs.frames.Frames.link.Goals as goal

pub link_frames-requires-clause-some : goal.link_frames-requires-clause-some
link_frames-requires-clause-some c =
    let p = sound_positive (chain c.self.inside.frames.items (reverse c.self.inside.aside.items)) c.self.invariant.0 in
    omega (arith, p, ap length c.as_mut_slice.ensures.value)

pub invariant_of-self : goal.invariant_of-self
invariant_of-self c =
    let fs = c.self.inside.frames.items in
    let ms = c.as_mut_slice.result.now in
    let gs = c.link_frames.new.frames in
    let same = c.as_mut_slice.ensures.value in
    let fit = subst (AreFit 0) (sym same) c.self.invariant.0.fit in
    let new = fit_either c.link_frames.result (linked ms c.args.level c.args.other.now c.args.local.now) ms gs fit (linked_fit ms gs c.args.level c.args.other.now c.args.local.now fit) c.link_frames.ensures.ok c.link_frames.ensures.unchanged in
    let long : length gs ≡ length fs = omega (arith, c.link_frames.auto.frames, ap length same) in
    sound_changed fs gs _ (reverse c.self.inside.aside.items) c.self.inside.frames.cap (whole_again c.self.inside.frames.len fs gs c.self.inside.frames.ok.0 long) new long c.self.invariant
