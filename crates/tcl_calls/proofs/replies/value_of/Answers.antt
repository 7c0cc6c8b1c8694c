use Rattle.tcl_calls.proofs.Hosted.{gives_long, gives_short}
use Rattle.tcl_calls.proofs.replies.value_of.Goals as goal

pub returns-in-Ok : goal.returns-in-Ok
returns-in-Ok c = gives_short c.args.text c.in-Ok.value c.in-Ok.ensures.0 c.in-Ok.ensures.1

pub returns-in-Err : goal.returns-in-Err
returns-in-Err c = gives_long c.args.text c.too_long.result c.in-Err.ensures.1 c.too_long.ensures
