use Rattle.tcl_expression_evaluation.proofs.Trees.{steps_compute_trees}
use Rattle.tcl_expression_evaluation.proofs.laws.steps_compute_trees.Goals as goal

pub returns : goal.returns
returns c = steps_compute_trees
