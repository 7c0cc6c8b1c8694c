use Rattle.tcl_glob.proofs.Outcomes.{star_all}
use Rattle.tcl_glob.proofs.laws.star_matches_all.Goals as goal

pub returns : goal.returns
returns c = star_all
