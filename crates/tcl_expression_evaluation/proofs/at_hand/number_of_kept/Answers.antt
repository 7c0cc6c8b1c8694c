use Rattle.std.proofs.Common.{rules, FitsSigned, w64}
use Rattle.std.proofs.lemmas.Int.{to_z-of_z}
use Rattle.tcl_expression_evaluation.proofs.UnderWay.{numbers_applied}
use Rattle.tcl_expression_evaluation.proofs.at_hand.number_of_kept.Goals as goal

pub returns : goal.returns
returns c =
    let fits : FitsSigned w64 c.in_ok-first.first = search rules in
    let fits' : FitsSigned w64 c.in_ok-second.second = search rules in
    let made = rw (to_z-of_z w64 c.in_ok-first.first fits, to_z-of_z w64 c.in_ok-second.second fits') at c.apply_to_numbers.ensures in
    numbers_applied c.apply_to_numbers.result c.args.operator c.args.left.now c.args.right.now c.in_ok-first.first c.in_ok-second.second c.in_ok-first.ensures.integer c.in_ok-second.ensures.integer made
