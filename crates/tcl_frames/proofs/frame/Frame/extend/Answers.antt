use Rattle.tcl_frames.proofs.FrameLemmas.{at_some, lent_is, extend_lent, lent_same}
use Rattle.tcl_frames.proofs.frame.Frame.extend.Goals as goal

pub returns-in-Some-clause-ok : goal.returns-in-Some-clause-ok
returns-in-Some-clause-ok c =
    extend_lent _ _ c.self.view_is c.args.base.now c.in-Some.variable.now c.extend.new.self _ c.extend.result
    (lent_is c.get_mut.result c.in-Some.variable _ c.in-Some.is c.get_mut.ensures.value)
    (at_some c.get_mut.result c.in-Some.variable c.in-Some.is (c.get_mut.follows.holds c.extend.new.self))
    c.args.elements.items c.args.name.now c.extend.ensures.ok

pub returns-in-Some-clause-unchanged : goal.returns-in-Some-clause-unchanged
returns-in-Some-clause-unchanged c =
    lent_same _ _ c.self.view_is c.args.base.now c.in-Some.variable.now c.extend.new.self _ c.extend.result
    (lent_is c.get_mut.result c.in-Some.variable _ c.in-Some.is c.get_mut.ensures.value)
    (at_some c.get_mut.result c.in-Some.variable c.in-Some.is (c.get_mut.follows.holds c.extend.new.self))
    c.extend.ensures.unchanged
