use Rattle.tcl_host.proofs.HostLaws.{appending_law}
use Rattle.tcl_host.proofs.laws.what_is_appended_comes_last.Goals as goal

pub returns : goal.returns
returns c = appending_law
