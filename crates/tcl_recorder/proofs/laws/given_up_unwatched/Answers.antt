use Rattle.tcl_recorder.proofs.GivenUp.{given_up_unwatched}
use Rattle.tcl_recorder.proofs.laws.given_up_unwatched.Goals as goal

pub returns : goal.returns
returns g c prog T o z p x b = given_up_unwatched g.O.Outside.goes prog T o z p x b
