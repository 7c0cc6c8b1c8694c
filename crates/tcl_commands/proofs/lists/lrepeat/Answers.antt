use Rattle.tcl_lists.specs.Lists.{lrepeat_of}
use Rattle.tcl_commands.proofs.Answering.{given_acts}
use Rattle.tcl_commands.proofs.lists.lrepeat.Goals as goal

pub returns-clause-acts : goal.returns-clause-acts
returns-clause-acts c = given_acts c.args.tree.now c.args.place (λ style. lrepeat_of style c.args.args.now) c.answered.result c.integers.result c.integers.ensures (c.answered.ensures (lrepeat_of c.integers.result c.args.args.now) c.lrepeat.ensures)
