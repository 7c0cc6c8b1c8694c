use Rattle.tcl_run_laws.proofs.Beginning.{script_begins}
use Rattle.tcl_run_laws.proofs.unfinished.scripts_begin.Goals as goal

pub returns : goal.returns
returns g c style T o z p s n there e begun = script_begins g.H.Host.step style T p s n there e begun
