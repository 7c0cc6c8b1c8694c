use Rattle.tcl_replay.proofs.Agreeing.{agree_until}
use Rattle.tcl_replay.proofs.laws.records_agree_until.Goals as goal

pub returns : goal.returns
returns g j old new old2 new2 c d r r2 ms a b w y style same m m2 = agree_until _ _ old new old2 new2 c d r r2 w y style same ms a b m m2
