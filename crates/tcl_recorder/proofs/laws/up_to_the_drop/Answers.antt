use Rattle.tcl_recorder.proofs.Fates.{up_to_the_drop}
use Rattle.tcl_recorder.proofs.laws.up_to_the_drop.Goals as goal

pub returns : goal.returns
returns c = up_to_the_drop
