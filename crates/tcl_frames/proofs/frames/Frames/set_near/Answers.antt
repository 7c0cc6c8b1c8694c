use Rattle.tcl_frames.proofs.FrameLemmas.{at_some}
use Rattle.tcl_frames.proofs.frames.Frames.set_near.Goals as goal

pub returns-in-Some-clause-ok : goal.returns-in-Some-clause-ok
returns-in-Some-clause-ok c = at_some c.scalar_mut_near.result c.in-Some.held c.in-Some.is (c.scalar_mut_near.follows.holds c.args.value)
