use Rattle.tcl_language_laws.proofs.Plainness.{keeps_limits}
use Rattle.tcl_language_laws.proofs.safe_scripts_set_no_limit.Goals as goal

pub returns : goal.returns
returns g c = keeps_limits c
