use Rattle.tcl_frames.specs.Parts.{seen_part}
use Rattle.tcl_frames.proofs.FrameLemmas.{at_some, lent_is, assign_lent, lent_same}
use Rattle.tcl_frames.proofs.frame.Frame.assign.Goals as goal

pub returns-in-Some-clause-ok : goal.returns-in-Some-clause-ok
returns-in-Some-clause-ok c =
    assign_lent _ _ c.self.view_is c.args.base.now c.in-Some.variable.now c.assign.new.self _ c.assign.result
    (lent_is c.get_mut.result c.in-Some.variable _ c.in-Some.is c.get_mut.ensures.value)
    (at_some c.get_mut.result c.in-Some.variable c.in-Some.is (c.get_mut.follows.holds c.assign.new.self))
    (seen_part c.args.part) c.args.value c.args.name.now c.assign.ensures.ok

pub returns-in-Some-clause-unchanged : goal.returns-in-Some-clause-unchanged
returns-in-Some-clause-unchanged c =
    lent_same _ _ c.self.view_is c.args.base.now c.in-Some.variable.now c.assign.new.self _ c.assign.result
    (lent_is c.get_mut.result c.in-Some.variable _ c.in-Some.is c.get_mut.ensures.value)
    (at_some c.get_mut.result c.in-Some.variable c.in-Some.is (c.get_mut.follows.holds c.assign.new.self))
    c.assign.ensures.unchanged
