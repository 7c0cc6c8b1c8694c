use Rattle.tcl_recorder.proofs.BoundaryLaws.{no_crossing}
use Rattle.tcl_recorder.proofs.laws.boundary_crossings.Goals as goal

pub returns : goal.returns
returns g c d ev τ f = no_crossing d ev τ f
