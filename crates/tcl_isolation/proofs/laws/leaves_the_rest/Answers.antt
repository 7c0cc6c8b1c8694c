use Rattle.tcl_isolation.proofs.Untouching.{rest_untouched}
use Rattle.tcl_isolation.proofs.laws.leaves_the_rest.Goals as goal

pub returns : goal.returns
returns g d prog T V o z u i c crossings r w f = rest_untouched _ prog T V o z u i c crossings r w f
