use Rattle.tcl_run_laws.proofs.Beginning.{is_beginning}
use Rattle.tcl_run_laws.proofs.unfinished.runs_begin.Goals as goal

pub returns : goal.returns
returns g c prog T o z p s n begun = is_beginning g.H.Host.step prog T p s n begun
