use Rattle.tcl_isolation.proofs.Until.{does_until}
use Rattle.tcl_isolation.proofs.laws.reacts_until.Goals as goal

pub returns : goal.returns
returns g d prog T V o z t i c crossings early late r n m w f e whole u le = does_until _ prog T V o z t i c crossings r n m w f e le early late whole u
