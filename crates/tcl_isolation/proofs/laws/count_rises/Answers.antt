use Rattle.tcl_isolation.proofs.Safe.{counts}
use Rattle.tcl_isolation.proofs.laws.count_rises.Goals as goal

pub returns : goal.returns
returns g d prog T V o z t i c crossings r n w f e = counts _ prog T V o z t i c crossings r w n f e
