use Rattle.tcl_lists.specs.Computed.{lsort_of}
use Rattle.tcl_commands.proofs.Answering.{given_acts}
use Rattle.tcl_commands.proofs.lists.lsort.Goals as goal

pub returns-clause-acts : goal.returns-clause-acts
returns-clause-acts c = given_acts c.args.tree.now c.args.place (λ style. lsort_of style c.args.args.now) c.answered.result c.integers.result c.integers.ensures (c.answered.ensures (lsort_of c.integers.result c.args.args.now) c.lsort.ensures.computed)
