use Rattle.tcl_lists.specs.Lists.{linsert_of}
use Rattle.tcl_commands.proofs.Answering.{given_acts}
use Rattle.tcl_commands.proofs.lists.linsert.Goals as goal

pub returns-clause-acts : goal.returns-clause-acts
returns-clause-acts c = given_acts c.args.tree.now c.args.place (λ style. linsert_of style c.args.args.now) c.answered.result c.integers.result c.integers.ensures (c.answered.ensures (linsert_of c.integers.result c.args.args.now) c.linsert.ensures)
