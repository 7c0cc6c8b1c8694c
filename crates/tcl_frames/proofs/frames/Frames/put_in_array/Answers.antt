use Rattle.std.proofs.Common.{reverse, length, refl, arith}
use Rattle.std.specs.Vec.{vec_capacity}
use Rattle.std.proofs.lemmas.Option.{slice_get_read}
use Rattle.std.proofs.lemmas.Result.{on_err_weaker}
use Rattle.tcl_frames.proofs.LendLemmas.{kept_is}
use Rattle.tcl_frames.proofs.NearLemmas.{put_near, put_sound, below}
use Rattle.tcl_frames.proofs.frames.Frames.put_in_array.Goals as goal

pub index_mut-frame-requires : goal.index_mut-frame-requires
index_mut-frame-requires c = let b = below c.self.inside.frames.items (reverse c.self.inside.aside.items) c.args.self.now c.self.view_is c.level-level.result c.level-level.ensures c.self.invariant.0 in omega (arith, b, c.self.inside.frames.ok.0)

pub invariant_of-self : goal.invariant_of-self
invariant_of-self c =
    let fs = c.self.inside.frames.items in
    let as' = reverse c.self.inside.aside.items in
    let n = c.level-level.result in
    let f = c.index_mut-frame.result.now in
    let at = slice_get_read fs (length fs) n f refl (below fs as' c.args.self.now c.self.view_is n c.level-level.ensures c.self.invariant.0) c.index_mut-frame.ensures.value in
    put_sound fs as' n c.args.array.now c.args.key.now c.args.value f c.put_element.new.self c.put_element.result at c.put_element.ensures.ok (vec_capacity c.self.inside.frames) c.put_element.ensures.unchanged c.self.invariant

pub returns-clause-ok : goal.returns-clause-ok
returns-clause-ok c =
    let fs = c.self.inside.frames.items in
    let as' = reverse c.self.inside.aside.items in
    let n = c.level-level.result in
    let f = c.index_mut-frame.result.now in
    let is = c.level-level.ensures in
    let at = slice_get_read fs (length fs) n f refl (below fs as' c.args.self.now c.self.view_is n is c.self.invariant.0) c.index_mut-frame.ensures.value in
    put_near fs as' n c.args.array.now c.args.key.now c.args.value f c.put_element.new.self c.put_element.result at c.put_element.ensures.ok c.args.self.now c.self.view_is c.requires.simple c.requires.unopened is

pub returns-clause-unchanged : goal.returns-clause-unchanged
returns-clause-unchanged c =
    let fs = c.self.inside.frames.items in
    let as' = reverse c.self.inside.aside.items in
    let n = c.level-level.result in
    let f = c.index_mut-frame.result.now in
    let is = c.level-level.ensures in
    let at = slice_get_read fs (length fs) n f refl (below fs as' c.args.self.now c.self.view_is n is c.self.invariant.0) c.index_mut-frame.ensures.value in
    on_err_weaker c.put_element.result (λ p. kept_is fs as' n f c.put_element.new.self c.args.self.now c.self.view_is at p) c.put_element.ensures.unchanged
