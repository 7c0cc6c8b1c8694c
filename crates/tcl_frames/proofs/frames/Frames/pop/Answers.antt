use Rattle.std.proofs.Common.{◌∙◌, ◌-◌, sym, ap, subst, reverse, take}
use Rattle.std.specs.Prelude.{nat_lt}
use Rattle.tcl_frames.specs.Chain.{Aside, least}
use Rattle.tcl_frames.specs.Sound.{HasRoom}
use Rattle.std.proofs.Common.{List}
use Rattle.tcl_frames.proofs.ChainLemmas.{sound_pop, pop_is, no_pop_is}
use Rattle.tcl_frames.proofs.frames.Frames.pop.Goals as goal

pub invariant_of-self : goal.invariant_of-self
invariant_of-self c =
    let test = ap (λ (xs : List Aside). nat_lt (least (reverse xs)) c.len-count.result) (sym c.as_slice.ensures.value) ∙ sym c.may_pop.ensures ∙ c.if-may_pop.true in
    let popped = sound_pop c.self.inside.frames.items c.take_off.new.frames.items c.self.inside.aside.items c.len-count.result c.self.inside.frames.cap (c.take_off.ensures.items ∙ ap (λ n. take (n - 1) c.self.inside.frames.items) (sym c.len-count.ensures)) (c.len-count.ensures ∙ c.self.inside.frames.ok.0) test c.self.invariant in
    (popped.0, subst (λ n. HasRoom n (reverse c.self.inside.aside.items)) (sym c.take_off.ensures.capacity) popped.1)

pub returns-then-may_pop : goal.returns-then-may_pop
returns-then-may_pop c =
    let test = ap (λ (xs : List Aside). nat_lt (least (reverse xs)) c.len-count.result) (sym c.as_slice.ensures.value) ∙ sym c.may_pop.ensures ∙ c.if-may_pop.true in
    pop_is c.self.inside.frames.items c.take_off.new.frames.items c.self.inside.aside.items c.len-count.result c.args.self.now (c.take_off.ensures.items ∙ ap (λ n. take (n - 1) c.self.inside.frames.items) (sym c.len-count.ensures)) (c.len-count.ensures ∙ c.self.inside.frames.ok.0) test c.self.view_is

pub returns-else-may_pop : goal.returns-else-may_pop
returns-else-may_pop c =
    let test = ap (λ (xs : List Aside). nat_lt (least (reverse xs)) c.len-count.result) (sym c.as_slice.ensures.value) ∙ sym c.may_pop.ensures ∙ c.if-may_pop.false in
    no_pop_is c.self.inside.frames.items c.self.inside.aside.items c.len-count.result c.args.self.now (c.len-count.ensures ∙ c.self.inside.frames.ok.0) test c.self.view_is
