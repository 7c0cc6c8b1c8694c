use Rattle.tcl_recorder.proofs.BoundaryLaws.{ends}
use Rattle.tcl_recorder.proofs.laws.one_end.Goals as goal

pub returns : goal.returns
returns g c = ends g.row.O.Denot
