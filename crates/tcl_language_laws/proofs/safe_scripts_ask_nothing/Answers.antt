use Rattle.tcl_language_laws.proofs.Plainness.{keeps_quiet}
use Rattle.tcl_language_laws.proofs.safe_scripts_ask_nothing.Goals as goal

pub returns : goal.returns
returns g c = keeps_quiet c
