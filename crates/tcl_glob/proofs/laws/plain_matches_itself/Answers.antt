use Rattle.tcl_glob.proofs.Outcomes.{plain_itself}
use Rattle.tcl_glob.proofs.laws.plain_matches_itself.Goals as goal

pub returns : goal.returns
returns c = plain_itself
