use Rattle.tcl_expr.proofs.Parsings.{popped_some}
use Rattle.tcl_expression_evaluation.proofs.Stacks.{popped_top, popped_below}
use Rattle.tcl_expression_evaluation.proofs.evaluation.Evaluation.take.Goals as goal

pub returns-in-Some-clause-value : goal.returns-in-Some-clause-value
returns-in-Some-clause-value c = popped_top c.args.self.now.values.items c.pop.new.self.items c.in-Some.value (popped_some _ _ _ _ c.pop.ensures.items c.in-Some.is)

pub returns-in-Some-clause-values : goal.returns-in-Some-clause-values
returns-in-Some-clause-values c = popped_below c.args.self.now.values.items c.pop.new.self.items c.in-Some.value (popped_some _ _ _ _ c.pop.ensures.items c.in-Some.is)
