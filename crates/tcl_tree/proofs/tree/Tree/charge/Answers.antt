use Rattle.std.proofs.Common.{sym}
use Rattle.tcl_tree.proofs.HeapLemmas.{tree-none}
use Rattle.tcl_tree.proofs.CoreLemmas.{tree_there}
use Rattle.tcl_tree.proofs.tree.Tree.charge.Goals as goal

pub returns-in_default-clause-refused : goal.returns-in_default-clause-refused
returns-in_default-clause-refused c = tree-none _ _ _ (sym c.in_default.ensures)

pub returns-in-Ok-clause-there : goal.returns-in-Ok-clause-there
returns-in-Ok-clause-there c = tree_there c.args.self.now c.args.path.now _ (sym c.in-Some.ensures)

pub returns-in-Err-clause-refused : goal.returns-in-Err-clause-refused
returns-in-Err-clause-refused c = (tree_there c.args.self.now c.args.path.now _ (sym c.in-Some.ensures), (c.in-Err.ensures.refused c.args.path.now (sym c.in-Some.ensures)).0)
