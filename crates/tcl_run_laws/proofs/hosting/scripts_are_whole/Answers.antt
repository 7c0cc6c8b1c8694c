use Rattle.tcl_run_laws.proofs.HostedWholes.{whole_script}
use Rattle.tcl_run_laws.proofs.hosting.scripts_are_whole.Goals as goal

pub returns : goal.returns
returns g c style T V o z p s n r there top e t = whole_script g.H.Host.step style T V o z p s n r there top e t
