use Rattle.tcl_recorder.proofs.Watched.{unwatched}
use Rattle.tcl_recorder.proofs.laws.runs_unwatched.Goals as goal

pub returns : goal.returns
returns g c prog T V o z p x r t = unwatched g.O.Outside.goes prog T V o z p x r t
