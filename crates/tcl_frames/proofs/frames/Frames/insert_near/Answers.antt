use Rattle.std.proofs.Common.{sym, ap, ◌∙◌, reverse, length, refl, arith}
use Rattle.std.specs.Vec.{vec_capacity}
use Rattle.std.proofs.lemmas.Option.{slice_get_read}
use Rattle.std.proofs.lemmas.Result.{on_err_weaker}
use Rattle.tcl_frames.specs.Chain.{Chain}
use Rattle.tcl_frames.specs.Places.{current}
use Rattle.tcl_frames.proofs.LendLemmas.{kept_is}
use Rattle.tcl_frames.proofs.NearLemmas.{inserted_near, inserted_sound, below}
use Rattle.tcl_frames.proofs.frames.Frames.insert_near.Goals as goal

pub index_mut-frame-requires : goal.index_mut-frame-requires
index_mut-frame-requires c = let b = below c.self.inside.frames.items (reverse c.self.inside.aside.items) c.args.self.now c.self.view_is c.level-level.result c.level-level.ensures c.self.invariant.0 in omega (arith, b, c.self.inside.frames.ok.0)

pub invariant_of-self : goal.invariant_of-self
invariant_of-self c =
    let fs = c.self.inside.frames.items in
    let as' = reverse c.self.inside.aside.items in
    let n = c.level-level.result in
    let f = c.index_mut-frame.result.now in
    let simple = c.requires in
    let at = slice_get_read fs (length fs) n f refl (below fs as' c.args.self.now c.self.view_is n c.level-level.ensures c.self.invariant.0) c.index_mut-frame.ensures.value in
    inserted_sound fs as' n c.args.name.now c.args.value f c.insert_near.new.self c.insert_near.result at c.insert_near.ensures.ok (vec_capacity c.self.inside.frames) simple (c.level-level.ensures ∙ sym (ap (λ (s : Chain). current s.frames) c.self.view_is)) c.insert_near.ensures.unchanged c.self.invariant

pub returns-clause-ok : goal.returns-clause-ok
returns-clause-ok c =
    let fs = c.self.inside.frames.items in
    let as' = reverse c.self.inside.aside.items in
    let n = c.level-level.result in
    let f = c.index_mut-frame.result.now in
    let simple = c.requires in
    let is = c.level-level.ensures in
    let at = slice_get_read fs (length fs) n f refl (below fs as' c.args.self.now c.self.view_is n is c.self.invariant.0) c.index_mut-frame.ensures.value in
    inserted_near fs as' n c.args.name.now c.args.value f c.insert_near.new.self c.insert_near.result at c.insert_near.ensures.ok c.args.self.now c.self.view_is simple is

pub returns-clause-unchanged : goal.returns-clause-unchanged
returns-clause-unchanged c =
    let fs = c.self.inside.frames.items in
    let as' = reverse c.self.inside.aside.items in
    let n = c.level-level.result in
    let f = c.index_mut-frame.result.now in
    let is = c.level-level.ensures in
    let at = slice_get_read fs (length fs) n f refl (below fs as' c.args.self.now c.self.view_is n is c.self.invariant.0) c.index_mut-frame.ensures.value in
    on_err_weaker c.insert_near.result (λ p. kept_is fs as' n f c.insert_near.new.self c.args.self.now c.self.view_is at p) c.insert_near.ensures.unchanged
