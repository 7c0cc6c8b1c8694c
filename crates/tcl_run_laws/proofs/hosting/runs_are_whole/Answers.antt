use Rattle.tcl_run_laws.proofs.HostedWholes.{whole_run}
use Rattle.tcl_run_laws.proofs.hosting.runs_are_whole.Goals as goal

pub returns : goal.returns
returns g c fine prog T V o z p s n r there keep top stands t = whole_run g.H.Host.step fine prog T V o z p s n r there keep top stands t
