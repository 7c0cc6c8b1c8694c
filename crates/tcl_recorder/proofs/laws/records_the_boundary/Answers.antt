use Rattle.tcl_recorder.proofs.Watched.{watched}
use Rattle.tcl_recorder.proofs.laws.records_the_boundary.Goals as goal

pub returns : goal.returns
returns g c cs ds T V o z τ t = watched g.O.Outside.goes cs ds T V o z τ t
