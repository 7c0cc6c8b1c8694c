use Rattle.tcl_core.proofs.Safeguards.{no_requests}
use Rattle.tcl_core.proofs.no_requests.Goals as goal

pub returns : goal.returns
returns g c = no_requests
