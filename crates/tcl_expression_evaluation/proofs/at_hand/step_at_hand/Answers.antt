use Rattle.tcl_expression_evaluation.proofs.UnderWay.{third_left_out, choice_ends}
use Rattle.tcl_expression_evaluation.proofs.at_hand.step_at_hand.Goals as goal

pub returns-in-Operand-clause-does : goal.returns-in-Operand-clause-does
returns-in-Operand-clause-does c = rw c.in-Operand.is c.take_operand.ensures.does

pub returns-in-Colon-clause-does : goal.returns-in-Colon-clause-does
returns-in-Colon-clause-does c = rw c.in-Colon.is (third_left_out c.args.frames.now.frames c.args.style c.args.more.now c.behind_mark.result.now c.args.waiting.now.items (c.behind_mark.ensures.goes c.args.style))

pub returns-in-Choice-clause-does : goal.returns-in-Choice-clause-does
returns-in-Choice-clause-does c = rw c.in-Choice.is (choice_ends c.args.frames.now.frames c.args.style c.args.more.now c.args.waiting.now.items)
