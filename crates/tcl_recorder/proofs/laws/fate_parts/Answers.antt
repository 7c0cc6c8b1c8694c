use Rattle.tcl_recorder.proofs.Fates.{fate_parts}
use Rattle.tcl_recorder.proofs.laws.fate_parts.Goals as goal

pub returns : goal.returns
returns c b d σ τ = fate_parts b d σ τ
