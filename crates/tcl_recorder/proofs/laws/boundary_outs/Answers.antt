use Rattle.tcl_recorder.proofs.BoundaryLaws.{boundary_outs}
use Rattle.tcl_recorder.proofs.laws.boundary_outs.Goals as goal

pub returns : goal.returns
returns g c d τ = boundary_outs d τ
