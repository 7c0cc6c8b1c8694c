use Rattle.std.proofs.Common.{rules, FitsSigned, w64}
use Rattle.std.proofs.lemmas.Int.{to_z-of_z}
use Rattle.tcl_expression_evaluation.proofs.UnderWay.{reduced_with}
use Rattle.tcl_expression_evaluation.proofs.at_hand.reduced.Goals as goal

pub returns : goal.returns
returns c =
    let n = c.in_ok-number-2.number in
    let fits : FitsSigned w64 n = search rules in
    rw (to_z-of_z w64 n fits) (reduced_with c.args.frames.now.frames c.args.style c.args.value.now c.args.steps.now c.in-Some.rest.now c.in-Some.right.now c.in-Some.operator _ n c.in-Some.ensures c.in_ok-second.ensures fits c.in_ok-number-2.ensures)
