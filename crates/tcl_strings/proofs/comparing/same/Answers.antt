use Rattle.tcl_strings.proofs.CommandLemmas.{same_is}
use Rattle.tcl_strings.proofs.comparing.same.Goals as goal

pub returns : goal.returns
returns c = same_is c.equal.result _ _ c.equal.ensures
