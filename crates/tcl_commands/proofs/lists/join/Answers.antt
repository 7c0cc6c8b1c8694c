use Rattle.std.proofs.Common.{refl}
use Rattle.tcl_lists.specs.Joining.{join_of}
use Rattle.tcl_tree.specs.TreeOf.{marks_of}
use Rattle.tcl_commands.proofs.Answering.{given_acts}
use Rattle.tcl_commands.proofs.lists.join.Goals as goal

pub returns-clause-acts : goal.returns-clause-acts
returns-clause-acts c = given_acts c.args.tree.now c.args.place (λ style. join_of c.args.args.now) c.answered.result (marks_of c.args.tree.now).integers refl (c.answered.ensures (join_of c.args.args.now) c.join.ensures)
