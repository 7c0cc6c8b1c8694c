use Rattle.std.proofs.Common.{◌≡◌, ◌≤◌, ◌∙◌, List, sym, ap, subst, reverse, arith}
use Rattle.std.specs.Vec.{vec_capacity}
use Rattle.std.proofs.lemmas.List.Elements.{same_from_all_zip}
use Rattle.tcl_frames.specs.Variables.{Frame}
use Rattle.tcl_frames.specs.Places.{Levels}
use Rattle.tcl_frames.specs.Chain.{Aside}
use Rattle.tcl_frames.specs.Sound.{IsSound, HasRoom}
use Rattle.tcl_frames.proofs.ChainLemmas.{chain, sound_kept}
use Rattle.tcl_frames.proofs.frames.Frames.copy.Goals as goal

pub invariant_of-result : goal.invariant_of-result
invariant_of-result c =
    let frames = c.reserve.ensures.items ∙ same_from_all_zip (λ (a b : Frame). b ≡ a) c.self.inside.frames.items c.in_ok-frames.frames.items c.in_ok-frames.ensures.cases.0 (λ a b e. e) in
    let aside = same_from_all_zip (λ (a b : Aside). b ≡ a) c.self.inside.aside.items c.in_ok-aside.aside.items c.in_ok-aside.ensures.cases.0 (λ a b e. e) in
    let room : vec_capacity c.self.inside.frames ≤ vec_capacity c.reserve.new.self = omega (arith, c.in_ok-reserve.ensures.ok, c.reserve.ensures.len, c.in_ok-frames.ensures.cases.1, c.saturating_sub-room.ensures, c.capacity.ensures, c.len.ensures) in
    let xs = c.self.inside.aside.items in
    subst (λ (ys : List Aside). IsSound (chain c.reserve.new.self.items (reverse ys)) × HasRoom (vec_capacity c.reserve.new.self) (reverse ys)) (sym aside)
    (sound_kept c.self.inside.frames.items c.reserve.new.self.items (reverse xs) (vec_capacity c.self.inside.frames) (vec_capacity c.reserve.new.self) frames room c.self.invariant)

pub returns : goal.returns
returns c =
    let frames = c.reserve.ensures.items ∙ same_from_all_zip (λ (a b : Frame). b ≡ a) c.self.inside.frames.items c.in_ok-frames.frames.items c.in_ok-frames.ensures.cases.0 (λ a b e. e) in
    let aside = same_from_all_zip (λ (a b : Aside). b ≡ a) c.self.inside.aside.items c.in_ok-aside.aside.items c.in_ok-aside.ensures.cases.0 (λ a b e. e) in
    ap (λ (us : Levels). chain us (reverse c.in_ok-aside.aside.items)) frames
    ∙ ap (λ (ys : List Aside). chain c.self.inside.frames.items (reverse ys)) aside
    ∙ c.self.view_is
