use Rattle.tcl_isolation.proofs.Hosts.{host_untouched}
use Rattle.tcl_isolation.proofs.laws.leaves_the_host.Goals as goal

pub returns : goal.returns
returns g d prog T V o z u i c crossings r w f = host_untouched _ prog T V o z u i c crossings r w f
