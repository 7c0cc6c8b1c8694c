use Rattle.tcl_expr.proofs.Decisions.{gives_tree, gives_fault}
use Rattle.tcl_expr.proofs.laws.reading_says_the_same.Goals as goal

pub returns-clause-tree : goal.returns-clause-tree
returns-clause-tree c = gives_tree

pub returns-clause-fault : goal.returns-clause-fault
returns-clause-fault c = gives_fault
