use Rattle.tcl_host.proofs.LineLaws.{line_law}
use Rattle.tcl_host.proofs.laws.lines_are_read.Goals as goal

pub returns : goal.returns
returns c = line_law
