use Rattle.tcl_value.proofs.Weights.{length-write}
use Rattle.tcl_value.proofs.value_laws.written_length.Goals as goal

pub returns : goal.returns
returns c = length-write
