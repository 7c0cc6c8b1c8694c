use Rattle.tcl_frames.proofs.FrameLemmas.{at_some, lent_is, put_lent, lent_same}
use Rattle.tcl_frames.proofs.frame.Frame.put_element.Goals as goal

pub returns-in-Some-clause-ok : goal.returns-in-Some-clause-ok
returns-in-Some-clause-ok c =
    put_lent _ _ c.self.view_is c.args.base.now c.args.key.now c.args.value c.in-Some.variable.now c.put_element.new.self _
    (lent_is c.get_mut.result c.in-Some.variable _ c.in-Some.is c.get_mut.ensures.value)
    (at_some c.get_mut.result c.in-Some.variable c.in-Some.is (c.get_mut.follows.holds c.put_element.new.self))
    c.put_element.result c.put_element.ensures.ok

pub returns-in-Some-clause-unchanged : goal.returns-in-Some-clause-unchanged
returns-in-Some-clause-unchanged c =
    lent_same _ _ c.self.view_is c.args.base.now c.in-Some.variable.now c.put_element.new.self _ c.put_element.result
    (lent_is c.get_mut.result c.in-Some.variable _ c.in-Some.is c.get_mut.ensures.value)
    (at_some c.get_mut.result c.in-Some.variable c.in-Some.is (c.get_mut.follows.holds c.put_element.new.self))
    c.put_element.ensures.unchanged
