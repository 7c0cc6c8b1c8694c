use Rattle.tcl_isolation.proofs.Dropping.{reacts_to_drop}
use Rattle.tcl_isolation.proofs.laws.reacts_to_drop.Goals as goal

pub returns : goal.returns
returns g d prog T V o z t i c crossings r n m w f e u le = reacts_to_drop _ prog T V o z t i c crossings r n m w f e u le
