use Rattle.std.proofs.Common.{◌≡◌, refl, sym, ◌∙◌, ap, subst, Ok, reverse, length, arith}
use Rattle.std.specs.Prelude.{IfOk, IfErr}
use Rattle.tcl_frames.specs.Faults.{Refuses}
use Rattle.tcl_frames.specs.Written.{seen}
use Rattle.tcl_frames.specs.declared.frame.Change.TheVariants.{Assign}
use Rattle.tcl_frames.specs.Places.{Levels, current, level_of}
use Rattle.tcl_frames.specs.Chain.{Chain, with_frames}
use Rattle.tcl_frames.proofs.ChainLemmas.{chain, sound_positive}
use Rattle.tcl_frames.proofs.StepLemmas.{read_none, read_some, place_bad, read_bad_name, written_is, change_is, read_is, below_current}
use Rattle.tcl_frames.proofs.frames.Frames.get_mut.Goals as goal

pub lend_end-requires : goal.lend_end-requires
lend_end-requires c =
    let p = sound_positive (chain c.self.inside.frames.items (reverse c.self.inside.aside.items)) c.self.invariant.0 in
    let same = ap length c.as_slice.ensures.value in
    let below = below_current c.in-Some.written.is_global c.as_slice.result.now c.level_meant-level.result c.level_meant-level.ensures (omega (arith, p, same)) in
    omega (arith, below, same, ap (λ (d : Chain). length d.frames) c.self.view_is)

pub returns-in-None : goal.returns-in-None
returns-in-None c =
    let x = c.args.name.now in
    let fs = c.args.self.now.frames in (
      (refl, (λ w h. absurd (cc)), refl),
      record { writes_back = tt; ok = tt; err = read_bad_name fs x c.refused.result (place_bad fs x (read_none c.read_name.result c.as_str.result.now x c.read_name.ensures c.as_str.ensures c.in-None.is)) c.refused.ensures },
    )

pub returns-in-Some : goal.returns-in-Some
returns-in-Some c =
    let x = c.args.name.now in
    let w = seen c.in-Some.written in
    let n = c.level_meant-level.result in
    let self = c.args.self.now in
    let r = c.lend_end.result in
    let name = read_some c.read_name.result c.as_str.result.now x c.in-Some.written c.read_name.ensures c.as_str.ensures c.in-Some.is in
    let level = c.level_meant-level.ensures ∙ ap (λ (fs : Levels). level_of w.is_global (current fs)) (c.as_slice.ensures.value ∙ ap (λ (d : Chain). d.frames) c.self.view_is) in
    let is = read_is self.frames x w n name level in (
      (
        refl,
        (λ t h. ap (with_frames self) (written_is self.frames x t ∙ change_is (Assign t) self.frames x w n name level) ∙ c.lend_end.follows.holds t h),
        c.lend_end.follows.holds-at-none,
      ),
      record {
        writes_back = tt;
        ok = subst (λ z. IfOk r (λ v. z ≡ Ok v.now)) (sym is) c.lend_end.ensures.ok;
        err = subst (λ z. IfErr r (λ e. Refuses e z)) (sym is) c.lend_end.ensures.err;
      },
    )
