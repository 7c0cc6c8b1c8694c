use Rattle.tcl_glob.proofs.Outcomes.{stars_find}
use Rattle.tcl_glob.proofs.laws.stars_find_plain.Goals as goal

pub returns : goal.returns
returns c = stars_find
