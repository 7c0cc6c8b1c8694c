use Rattle.std.proofs.Common.{List, IfSome, sym, subst}
use Rattle.tcl_expr.specs.declared.tree.Node.{Node}
use Rattle.tcl_expression_evaluation.specs.AtHand.{IsNumberAtHand}
use Rattle.tcl_expression_evaluation.proofs.UnderWay.{some_behind}
use Rattle.tcl_expression_evaluation.proofs.at_hand.number_of_more.Goals as goal

pub returns : goal.returns
returns c =
    subst (λ (code : List Node). IfSome c.number_from.result (λ n. IsNumberAtHand c.args.frames.now.frames c.args.style code n)) (sym c.in_ok-first.ensures)
    (some_behind c.number_from.result c.args.frames.now.frames c.args.style c.in_ok-first.first.now c.in_ok-first.rest.now _ c.in_ok-value_at_hand.ensures c.number_from.ensures)
