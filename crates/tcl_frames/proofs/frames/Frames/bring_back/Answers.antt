use Rattle.std.proofs.Common.{◌∙◌, take, ◌++◌, suc, sym, ap, arith, reverse, ◌∷◌, [], is_ok, if◌then◌else◌}
use Rattle.tcl_frames.specs.Places.{Levels}
use Rattle.tcl_frames.specs.Chain.{Aside}
use Rattle.tcl_frames.proofs.ChainLemmas.{chain, back_of, back_comes, back_none, sound_kept, one_more}
use Rattle.tcl_frames.proofs.frames.Frames.bring_back.Goals as goal

pub overflow_add-above : goal.overflow_add-above
overflow_add-above c =
    let fs = c.self.inside.frames.items in
    let a : Aside = record { above = c.part.inside.above; frames = c.part.inside.frames.items } in
    let e = c.in-Some.ensures.items ∙ ap (λ (p : Aside). c.pop.new.self.items ++ p ∷ []) (sym c.part.view_is) in
    let b = back_of fs c.self.inside.aside.items c.pop.new.self.items a c.self.inside.frames.cap e c.self.invariant in
    omega (arith, b.low, c.self.inside.frames.ok.0, c.self.inside.frames.ok.1, c.self.inside.frames.small)

pub unwrap-requires : goal.unwrap-requires
unwrap-requires c =
    let fs = c.self.inside.frames.items in
    let a : Aside = record { above = c.part.inside.above; frames = c.part.inside.frames.items } in
    let e = c.in-Some.ensures.items ∙ ap (λ (p : Aside). c.pop.new.self.items ++ p ∷ []) (sym c.part.view_is) in
    let b = back_of fs c.self.inside.aside.items c.pop.new.self.items a c.self.inside.frames.cap e c.self.invariant in
    c.append.ensures.succeeds (omega (arith, b.low, b.room, c.truncate.ensures.len, c.truncate.ensures.capacity, c.self.inside.frames.ok.0, c.part.inside.frames.ok.0))

pub invariant_of-self : goal.invariant_of-self
invariant_of-self c =
    let fs = c.self.inside.frames.items in
    let a : Aside = record { above = c.part.inside.above; frames = c.part.inside.frames.items } in
    let e = c.in-Some.ensures.items ∙ ap (λ (p : Aside). c.pop.new.self.items ++ p ∷ []) (sym c.part.view_is) in
    let b = back_of fs c.self.inside.aside.items c.pop.new.self.items a c.self.inside.frames.cap e c.self.invariant in
    let joined = c.append.ensures.items ∙ ap (λ r. if is_ok r then c.truncate.new.self.items ++ c.part.inside.frames.items else c.truncate.new.self.items) c.unwrap.ensures in
    let same = joined ∙ ap (λ (gs : Levels). gs ++ c.part.inside.frames.items) (c.truncate.ensures.items ∙ ap (λ n. take n fs) (one_more c.part.inside.above)) in
    sound_kept (take (suc c.part.inside.above) fs ++ c.part.inside.frames.items) c.append.new.self.items (reverse c.pop.new.self.items) c.self.inside.frames.cap c.append.new.self.cap
    same (omega (arith, c.truncate.ensures.capacity, c.append.ensures.capacity)) (b.sound, b.later)

pub returns-in-Some : goal.returns-in-Some
returns-in-Some c =
    let fs = c.self.inside.frames.items in
    let a : Aside = record { above = c.part.inside.above; frames = c.part.inside.frames.items } in
    let e = c.in-Some.ensures.items ∙ ap (λ (p : Aside). c.pop.new.self.items ++ p ∷ []) (sym c.part.view_is) in
    let joined = c.append.ensures.items ∙ ap (λ r. if is_ok r then c.truncate.new.self.items ++ c.part.inside.frames.items else c.truncate.new.self.items) c.unwrap.ensures in
    let same = joined ∙ ap (λ (gs : Levels). gs ++ c.part.inside.frames.items) (c.truncate.ensures.items ∙ ap (λ n. take n fs) (one_more c.part.inside.above)) in
    ap (λ (gs : Levels). chain gs (reverse c.pop.new.self.items)) same ∙ back_comes fs c.self.inside.aside.items c.pop.new.self.items a c.args.self.now e c.self.view_is

pub returns-in-None : goal.returns-in-None
returns-in-None c =
    back_none c.self.inside.frames.items c.self.inside.aside.items c.pop.new.self.items c.args.self.now c.in-None.ensures.items (omega (arith, c.in-None.ensures.cases.0, c.self.inside.aside.ok.0)) c.self.view_is
