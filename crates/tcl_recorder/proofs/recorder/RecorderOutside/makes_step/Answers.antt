use Rattle.tcl_recorder.proofs.Recorders.{makes_step}
use Rattle.tcl_recorder.proofs.recorder.RecorderOutside.makes_step.Goals as goal

pub returns-clause-told : goal.returns-clause-told
returns-clause-told g c = λ T p. makes_step g.O.Outside.goes T c.args.self.now c.makes_step.new.self p (c.makes_step.ensures.told T p)
