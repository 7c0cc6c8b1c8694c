use Rattle.std.proofs.Common.{◌≡◌, sym, ap, arith, reverse, length, subst}
use Rattle.tcl_frames.specs.Sound.{AreFit}
use Rattle.tcl_frames.specs.Keys.{change_key}
use Rattle.tcl_frames.proofs.ChainLemmas.{chain, sound_positive, whole_again, fit_either, sound_changed}
use Rattle.tcl_frames.proofs.KeyLemmas.{change_key_fit}
use Rattle.tcl_frames.proofs.frames.Frames.change_key.Goals as goal

pub change_key_in-requires-clause-some : goal.change_key_in-requires-clause-some
change_key_in-requires-clause-some c =
    let p = sound_positive (chain c.self.inside.frames.items (reverse c.self.inside.aside.items)) c.self.invariant.0 in
    omega (arith, p, ap length c.as_mut_slice.ensures.value)

pub invariant_of-self : goal.invariant_of-self
invariant_of-self c =
    let fs = c.self.inside.frames.items in
    let ms = c.as_mut_slice.result.now in
    let gs = c.change_key_in.new.frames in
    let same = c.as_mut_slice.ensures.value in
    let fit = subst (AreFit 0) (sym same) c.self.invariant.0.fit in
    let new = fit_either c.change_key_in.result (change_key c.args.change ms c.args.name.now c.args.key.now) ms gs fit (change_key_fit c.args.change ms gs c.args.name.now c.args.key.now fit) c.change_key_in.ensures.ok c.change_key_in.ensures.unchanged in
    let long : length gs ≡ length fs = omega (arith, c.change_key_in.auto.frames, ap length same) in
    sound_changed fs gs _ (reverse c.self.inside.aside.items) c.self.inside.frames.cap (whole_again c.self.inside.frames.len fs gs c.self.inside.frames.ok.0 long) new long c.self.invariant
