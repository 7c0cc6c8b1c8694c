use Rattle.tcl_partial_runs.proofs.Kept.{kept_begins}
use Rattle.tcl_partial_runs.proofs.kept_begins.Goals as goal

pub returns : goal.returns
returns g c = kept_begins
