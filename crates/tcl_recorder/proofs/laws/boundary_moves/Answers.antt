use Rattle.tcl_recorder.proofs.BoundaryLaws.{boundary_moves}
use Rattle.tcl_recorder.proofs.laws.boundary_moves.Goals as goal

pub returns : goal.returns
returns g c d τ = boundary_moves d τ
