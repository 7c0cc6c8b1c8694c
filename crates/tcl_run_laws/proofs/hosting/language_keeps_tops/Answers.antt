use Rattle.tcl_run_laws.proofs.Limiting.{language_keeps_tops}
use Rattle.tcl_run_laws.proofs.hosting.language_keeps_tops.Goals as goal

pub returns : goal.returns
returns c style = language_keeps_tops style
