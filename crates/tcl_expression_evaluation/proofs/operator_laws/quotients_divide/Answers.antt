use Rattle.tcl_expression_evaluation.proofs.Numbers.{divides}
use Rattle.tcl_expression_evaluation.proofs.operator_laws.quotients_divide.Goals as goal

pub returns : goal.returns
returns c = divides
