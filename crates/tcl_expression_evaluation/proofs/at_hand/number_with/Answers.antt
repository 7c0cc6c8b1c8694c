use Rattle.std.proofs.Common.{rules, Some, FitsSigned, w64}
use Rattle.std.proofs.lemmas.Int.{to_z-of_z}
use Rattle.tcl_expression_evaluation.proofs.UnderWay.{number_read, computed_with}
use Rattle.tcl_expression_evaluation.proofs.at_hand.number_with.Goals as goal

pub returns : goal.returns
returns c = λ text reads.
    let fits : FitsSigned w64 c.in_ok-y.y = search rules in
    let made = rw (to_z-of_z w64 c.args.x c.ranges.x, to_z-of_z w64 c.in_ok-y.y fits) at c.apply_to_numbers.ensures in
    computed_with c.apply_to_numbers.result c.args.frames.now.frames c.args.style c.args.right.now c.args.operator text _ c.args.x c.in_ok-y.y reads
    c.in_ok-value_at_hand.ensures (number_read c.int.result (Some c.in_ok-y.y) _ c.in_ok-y.ensures.value c.int.ensures) made
