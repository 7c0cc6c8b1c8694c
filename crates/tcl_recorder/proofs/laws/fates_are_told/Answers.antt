use Rattle.tcl_recorder.proofs.Fates.{spared, stands}
use Rattle.tcl_recorder.proofs.laws.fates_are_told.Goals as goal

pub returns : goal.returns
returns c d τ = (spared d τ, stands d τ)
