use Rattle.tcl_recorder.proofs.Recorders.{refuses_step}
use Rattle.tcl_recorder.proofs.recorder.RecorderOutside.refuses_step.Goals as goal

pub returns-clause-told : goal.returns-clause-told
returns-clause-told g c = λ e T p. refuses_step g.O.Outside.goes T c.args.self.now c.refuses_step.new.self p (c.refuses_step.ensures.told e T p)
