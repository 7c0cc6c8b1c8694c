use Rattle.tcl_language_laws.proofs.Played.{play_is_run}
use Rattle.tcl_language_laws.proofs.play_is_run.Goals as goal

pub returns : goal.returns
returns g c = play_is_run
