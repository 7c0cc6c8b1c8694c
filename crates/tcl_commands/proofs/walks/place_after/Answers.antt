use Rattle.tcl_commands.proofs.Turns.{drop_more}
use Rattle.tcl_commands.proofs.walks.place_after.Goals as goal

pub returns-then-at-len : goal.returns-then-at-len
returns-then-at-len c = drop_more c.args.at c.args.elements.now
