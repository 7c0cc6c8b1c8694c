use Rattle.tcl_core.proofs.Worlds.{all_agree}
use Rattle.tcl_core.proofs.all_agree.Goals as goal

pub returns : goal.returns
returns g c = all_agree
