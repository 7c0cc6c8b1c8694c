use Rattle.tcl_lists.specs.Lists.{list_of}
use Rattle.tcl_commands.proofs.Answering.{written_acts}
use Rattle.tcl_commands.proofs.lists.list.Goals as goal

pub returns-clause-acts : goal.returns-clause-acts
returns-clause-acts c = written_acts c.args.tree.now c.args.place c.args.args.now c.answered.result (c.answered.ensures (list_of c.args.args.now) c.list.ensures)
