use Rattle.tcl_expression_evaluation.proofs.Digitwise.{digitwise}
use Rattle.tcl_expression_evaluation.proofs.operator_laws.bits_are_digits.Goals as goal

pub returns : goal.returns
returns c = digitwise
