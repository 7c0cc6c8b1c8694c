use Rattle.tcl_isolation.proofs.Until.{reacts_there}
use Rattle.tcl_isolation.proofs.laws.reacts_there.Goals as goal

pub returns : goal.returns
returns g d prog T V o z t i c crossings r n m first last ev move w f e whole moves u le = reacts_there _ prog T V o z t i c crossings r n m w f e le first last ev move whole moves u
