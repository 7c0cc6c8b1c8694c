use Rattle.tcl_replay.proofs.Agreeing.{agree}
use Rattle.tcl_replay.proofs.laws.records_agree.Goals as goal

pub returns : goal.returns
returns g j old new old2 new2 c d r r2 w y style same m = agree _ _ old new old2 new2 c d r r2 w y style same m
