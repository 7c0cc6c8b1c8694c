use Rattle.tcl_expression_evaluation.proofs.Forms.{trees_are_formed}
use Rattle.tcl_expression_evaluation.proofs.laws.trees_are_formed.Goals as goal

pub returns : goal.returns
returns c = trees_are_formed
