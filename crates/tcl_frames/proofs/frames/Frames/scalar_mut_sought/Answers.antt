use Rattle.std.proofs.Common.{refl, sym, ap, ◌∙◌, reverse, length, arith}
use Rattle.std.specs.Vec.{vec_capacity}
use Rattle.std.proofs.lemmas.Option.{slice_get_read}
use Rattle.tcl_frames.specs.Variables.Part.{whole}
use Rattle.tcl_frames.proofs.FrameLemmas.{at_some}
use Rattle.tcl_frames.specs.Chain.{Chain}
use Rattle.tcl_frames.specs.Places.{current}
use Rattle.tcl_frames.proofs.LendLemmas.{lent_sound, kept_is}
use Rattle.tcl_frames.proofs.NearLemmas.{read_there, rebound_there, set_there, below}
use Rattle.tcl_frames.proofs.frames.Frames.scalar_mut_sought.Goals as goal

pub index_mut-frame-requires : goal.index_mut-frame-requires
index_mut-frame-requires c = let b = below c.self.inside.frames.items (reverse c.self.inside.aside.items) c.args.self.now c.self.view_is c.level-level.result (c.level-level.ensures ∙ ap (λ (s : Chain). current s.frames) c.self.view_is) c.self.invariant.0 in omega (arith, b, c.self.inside.frames.ok.0)

pub invariant_of-self-lent : goal.invariant_of-self-lent
invariant_of-self-lent c = λ w.
    let fs = c.self.inside.frames.items in
    let as' = reverse c.self.inside.aside.items in
    let n = c.level-level.result in
    let x = c.args.name.now in
    let f = c.index_mut-frame.result.now in
    let simple = sym c.is_simple.ensures ∙ c.if-not-is_simple.false in
    let at = slice_get_read fs (length fs) n f refl (below fs as' c.args.self.now c.self.view_is n (c.level-level.ensures ∙ ap (λ (s : Chain). current s.frames) c.self.view_is) c.self.invariant.0) c.index_mut-frame.ensures.value in
    let made = at_some c.scalar_mut_near.result c.in-Some.value c.in-Some.is (c.scalar_mut_near.follows.holds w) in
    lent_sound fs as' n f (c.scalar_mut_near.follows.lender w) x x w whole (vec_capacity c.self.inside.frames) at
    (rebound_there fs as' c.args.self.now c.self.view_is n x c.in-Some.value.now f simple (c.level-level.ensures ∙ ap (λ (s : Chain). current s.frames) c.self.view_is) at c.in-Some.ensures.scalar (c.scalar_mut_near.follows.lender w) w made)
    c.self.invariant

pub returns-in-Some : goal.returns-in-Some
returns-in-Some c =
    let fs = c.self.inside.frames.items in
    let as' = reverse c.self.inside.aside.items in
    let n = c.level-level.result in
    let x = c.args.name.now in
    let f = c.index_mut-frame.result.now in
    let simple = sym c.is_simple.ensures ∙ c.if-not-is_simple.false in
    let at = slice_get_read fs (length fs) n f refl (below fs as' c.args.self.now c.self.view_is n (c.level-level.ensures ∙ ap (λ (s : Chain). current s.frames) c.self.view_is) c.self.invariant.0) c.index_mut-frame.ensures.value in (
      (
        refl,
        (λ w. set_there fs as' c.args.self.now c.self.view_is n x c.in-Some.value.now f simple (c.level-level.ensures ∙ ap (λ (s : Chain). current s.frames) c.self.view_is) at c.in-Some.ensures.scalar (c.scalar_mut_near.follows.lender w) w (at_some c.scalar_mut_near.result c.in-Some.value c.in-Some.is (c.scalar_mut_near.follows.holds w))),
        refl,
      ),
      record { writes_back = tt; scalar = read_there fs as' c.args.self.now c.self.view_is n x c.in-Some.value.now f simple (c.level-level.ensures ∙ ap (λ (s : Chain). current s.frames) c.self.view_is) at c.in-Some.ensures.scalar },
    )

pub returns-in-None : goal.returns-in-None
returns-in-None c =
    let fs = c.self.inside.frames.items in
    let as' = reverse c.self.inside.aside.items in
    let n = c.level-level.result in
    let f = c.index_mut-frame.result.now in
    let at = slice_get_read fs (length fs) n f refl (below fs as' c.args.self.now c.self.view_is n (c.level-level.ensures ∙ ap (λ (s : Chain). current s.frames) c.self.view_is) c.self.invariant.0) c.index_mut-frame.ensures.value in (
      (refl, (λ w. tt), kept_is fs as' n f c.scalar_mut_near.follows.lender-at-none c.args.self.now c.self.view_is at c.scalar_mut_near.follows.holds-at-none),
      record { writes_back = tt; scalar = tt },
    )
