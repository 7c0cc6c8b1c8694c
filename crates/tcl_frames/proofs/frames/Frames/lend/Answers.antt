use Rattle.std.proofs.Common.{◌<◌, refl, sym, ◌∙◌, ap, subst, is_ok, reverse, length}
use Rattle.std.specs.Vec.{vec_capacity}
use Rattle.std.proofs.lemmas.Option.{slice_get_read}
use Rattle.tcl_frames.specs.Access.{value_of}
use Rattle.tcl_frames.specs.Faults.{Refuses}
use Rattle.tcl_frames.specs.Parts.{seen_part}
use Rattle.tcl_frames.specs.Chain.{Chain}
use Rattle.tcl_frames.proofs.LendLemmas.{lent_sound, lent_is_set, kept_is, bound_of, at_err}
use Rattle.tcl_frames.proofs.frames.Frames.lend.Goals as goal

pub invariant_of-self-lent : goal.invariant_of-self-lent
invariant_of-self-lent c =
    let fs = c.self.inside.frames.items in
    let f = c.index_mut-frame.result.now in
    let within = subst (λ (d : Chain). c.args.level < length d.frames) (sym c.self.view_is) c.requires in
    let at = slice_get_read fs (length fs) c.args.level f refl within c.index_mut-frame.ensures.value in
    λ w. lent_sound fs (reverse c.self.inside.aside.items) c.args.level f (c.value_mut_near.follows.lender w) c.args.base.now c.args.name.now w (seen_part c.args.part) (vec_capacity c.self.inside.frames) at (c.value_mut_near.follows.holds w (ap is_ok c.in-Ok.is)) c.self.invariant

pub returns-in-Ok : goal.returns-in-Ok
returns-in-Ok c =
    let fs = c.self.inside.frames.items in
    let f = c.index_mut-frame.result.now in
    let as' = reverse c.self.inside.aside.items in
    let part = seen_part c.args.part in
    let within = subst (λ (d : Chain). c.args.level < length d.frames) (sym c.self.view_is) c.requires in
    let at = slice_get_read fs (length fs) c.args.level f refl within c.index_mut-frame.ensures.value in (
      (
        refl,
        (λ w h. lent_is_set fs as' c.args.level f (c.value_mut_near.follows.lender w) c.args.base.now c.args.name.now w part c.args.self.now c.self.view_is at (c.value_mut_near.follows.holds w (ap is_ok c.in-Ok.is))),
        tt,
      ),
      (ap (λ o. value_of part o c.args.name.now) (bound_of fs as' c.args.level f c.args.self.now c.args.base.now c.self.view_is at) ∙ c.in-Ok.ensures.ok, tt),
    )

pub returns-in-Err : goal.returns-in-Err
returns-in-Err c =
    let fs = c.self.inside.frames.items in
    let f = c.index_mut-frame.result.now in
    let as' = reverse c.self.inside.aside.items in
    let part = seen_part c.args.part in
    let within = subst (λ (d : Chain). c.args.level < length d.frames) (sym c.self.view_is) c.requires in
    let at = slice_get_read fs (length fs) c.args.level f refl within c.index_mut-frame.ensures.value in
    let same = at_err c.value_mut_near.result c.in-Err.error c.in-Err.is c.value_mut_near.follows.holds-at-none in (
      (refl, (λ w h. absurd (cc)), kept_is fs as' c.args.level f c.value_mut_near.follows.lender-at-none c.args.self.now c.self.view_is at same),
      (tt, subst (λ o. Refuses c.in-Err.error (value_of part o c.args.name.now)) (sym (bound_of fs as' c.args.level f c.args.self.now c.args.base.now c.self.view_is at)) c.in-Err.ensures.err),
    )
