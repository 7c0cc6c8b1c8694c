use Rattle.std.proofs.Common.{rules, IfSome, FitsSigned, w64}
use Rattle.tcl_expression_evaluation.proofs.UnderWay.{two_computed}
use Rattle.tcl_expression_evaluation.proofs.at_hand.number_of_two.Goals as goal

pub returns : goal.returns
returns c =
    let some : IfSome c.number_of_values.result (λ n. FitsSigned w64 n) = search rules in
    two_computed c.number_of_values.result c.args.frames.now.frames c.args.style c.args.left.now c.args.right.now c.args.operator _ _ c.in_ok-first.ensures c.in_ok-second.ensures some c.number_of_values.ensures
