use Rattle.tcl_core.proofs.Worlds.{two_worlds}
use Rattle.tcl_core.proofs.two_worlds.Goals as goal

pub returns : goal.returns
returns g c = two_worlds
