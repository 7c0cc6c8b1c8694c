use Rattle.tcl_isolation.proofs.Watching.{only}
use Rattle.tcl_isolation.proofs.laws.reacts_so.Goals as goal

pub returns : goal.returns
returns g d prog T V o z t i c crossings r n m x told W w f e u le re = only _ prog T V o z t i c crossings r w n m x told W f e u le re
