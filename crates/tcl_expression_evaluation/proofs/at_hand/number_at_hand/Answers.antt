use Rattle.std.proofs.Common.{List, IfSome, subst}
use Rattle.tcl_expr.specs.declared.tree.Node.{Node}
use Rattle.tcl_expression_evaluation.specs.AtHand.{IsNumberAtHand}
use Rattle.tcl_expression_evaluation.proofs.at_hand.number_at_hand.Goals as goal

pub returns : goal.returns
returns c =
    subst (λ (code : List Node). IfSome c.number_of_more.result (λ n. IsNumberAtHand c.args.frames.now.frames c.args.style code n)) c.as_slice-nodes.ensures.value c.number_of_more.ensures
