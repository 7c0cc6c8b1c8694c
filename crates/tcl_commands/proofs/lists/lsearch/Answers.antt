use Rattle.std.proofs.Common.{refl}
use Rattle.tcl_lists.specs.Searching.{lsearch_of}
use Rattle.tcl_tree.specs.TreeOf.{marks_of}
use Rattle.tcl_commands.proofs.Answering.{given_acts}
use Rattle.tcl_commands.proofs.lists.lsearch.Goals as goal

pub returns-clause-acts : goal.returns-clause-acts
returns-clause-acts c = given_acts c.args.tree.now c.args.place (λ style. lsearch_of c.args.args.now) c.answered.result (marks_of c.args.tree.now).integers refl (c.answered.ensures (lsearch_of c.args.args.now) c.lsearch.ensures)
