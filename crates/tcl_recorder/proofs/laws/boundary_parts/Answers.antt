use Rattle.tcl_recorder.proofs.BoundaryLaws.{boundary_append}
use Rattle.tcl_recorder.proofs.laws.boundary_parts.Goals as goal

pub returns : goal.returns
returns g c d σ τ = boundary_append d σ τ
