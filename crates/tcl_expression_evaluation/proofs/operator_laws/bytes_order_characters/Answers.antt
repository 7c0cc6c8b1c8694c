use Rattle.tcl_expression_evaluation.proofs.Characters.{bytes_order_characters}
use Rattle.tcl_expression_evaluation.proofs.operator_laws.bytes_order_characters.Goals as goal

pub returns : goal.returns
returns c = bytes_order_characters
