use Rattle.tcl_core.proofs.Conclusions.{lives_within}
use Rattle.tcl_core.proofs.lives_within.Goals as goal

pub returns : goal.returns
returns g c = lives_within
