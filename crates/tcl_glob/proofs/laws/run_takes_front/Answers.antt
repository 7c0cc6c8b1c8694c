use Rattle.tcl_glob.proofs.Outcomes.{run_front}
use Rattle.tcl_glob.proofs.laws.run_takes_front.Goals as goal

pub returns : goal.returns
returns c = run_front
