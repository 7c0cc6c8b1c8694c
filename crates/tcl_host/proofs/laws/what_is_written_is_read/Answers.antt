use Rattle.tcl_host.proofs.HostLaws.{writing_law}
use Rattle.tcl_host.proofs.laws.what_is_written_is_read.Goals as goal

pub returns : goal.returns
returns c = writing_law
