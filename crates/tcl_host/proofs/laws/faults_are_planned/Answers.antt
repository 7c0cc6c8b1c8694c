use Rattle.tcl_host.proofs.HostLaws.{fault_law}
use Rattle.tcl_host.proofs.laws.faults_are_planned.Goals as goal

pub returns : goal.returns
returns c = fault_law
