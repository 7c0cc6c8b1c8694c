use Rattle.std.proofs.Common.{rules, FitsSigned, w64}
use Rattle.std.proofs.lemmas.Int.{to_z-of_z}
use Rattle.tcl_expression_evaluation.proofs.UnderWay.{reduced_along}
use Rattle.tcl_expression_evaluation.proofs.at_hand.number_from.Goals as goal

pub returns : goal.returns
returns c =
    let n = c.in_ok-number.number in
    let fits : FitsSigned w64 n = search rules in
    let made = rw (to_z-of_z w64 n fits) at c.number_along.ensures in
    reduced_along c.number_along.result c.args.frames.now.frames c.args.style c.args.first.now c.args.rest.now c.in_ok-number.more.now n c.in_ok-number.ensures made
