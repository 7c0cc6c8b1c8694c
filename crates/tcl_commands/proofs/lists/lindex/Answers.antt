use Rattle.tcl_lists.specs.Lists.{lindex_of}
use Rattle.tcl_commands.proofs.Answering.{given_acts}
use Rattle.tcl_commands.proofs.lists.lindex.Goals as goal

pub returns-clause-acts : goal.returns-clause-acts
returns-clause-acts c = given_acts c.args.tree.now c.args.place (λ style. lindex_of style c.args.args.now) c.answered.result c.integers.result c.integers.ensures (c.answered.ensures (lindex_of c.integers.result c.args.args.now) c.lindex.ensures)
