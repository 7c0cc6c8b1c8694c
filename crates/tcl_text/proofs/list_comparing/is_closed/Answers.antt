use Rattle.tcl_text.proofs.Comparing.{closed_means}
use Rattle.tcl_text.proofs.list_comparing.is_closed.Goals as goal

pub returns-then-last-eq125 : goal.returns-then-last-eq125
returns-then-last-eq125 c = closed_means c.eq.result c.args.text.now c.args.inside.now c.in-len1-up.len_at_least c.if-last-eq125.true c.eq.ensures
