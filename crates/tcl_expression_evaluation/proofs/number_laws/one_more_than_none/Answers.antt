use Rattle.tcl_expression_evaluation.proofs.Worked.{one_more_than_none}
use Rattle.tcl_expression_evaluation.proofs.number_laws.one_more_than_none.Goals as goal

pub returns : goal.returns
returns c = one_more_than_none
