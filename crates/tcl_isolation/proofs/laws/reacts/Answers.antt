use Rattle.tcl_isolation.proofs.Watching.{reacts}
use Rattle.tcl_isolation.proofs.laws.reacts.Goals as goal

pub returns : goal.returns
returns g d prog T V o z t i c crossings r n m w f e u le = reacts _ prog T V o z t i c crossings r w n m f e u le
