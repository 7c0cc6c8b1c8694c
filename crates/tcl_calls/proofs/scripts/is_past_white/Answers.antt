use Rattle.tcl_calls.proofs.Ends.{past_white}
use Rattle.tcl_calls.proofs.scripts.is_past_white.Goals as goal

pub returns : goal.returns
returns c = past_white c.args.letter
