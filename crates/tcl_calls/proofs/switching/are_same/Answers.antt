use Rattle.tcl_calls.proofs.Choosing.{same_bytes}
use Rattle.tcl_calls.proofs.switching.are_same.Goals as goal

pub returns : goal.returns
returns c = same_bytes c.equal.result _ _ c.equal.ensures
