use Rattle.tcl_replay.proofs.Series.{in_all}
use Rattle.tcl_replay.proofs.laws.runs_stay_within.Goals as goal

pub returns : goal.returns
returns g d c first last n l b below turn at_limit lb cb = in_all _ d.scripts_stay_within.ensures c below first l b n last turn at_limit lb cb
