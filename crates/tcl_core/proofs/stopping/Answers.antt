use Rattle.tcl_core.proofs.Stops.{stopping}
use Rattle.tcl_core.proofs.stopping.Goals as goal

pub returns : goal.returns
returns g c = stopping
