use Rattle.std.proofs.Common.{FitsSigned, w64, rules}
use Rattle.std.proofs.lemmas.Int.{to_z-of_z}
use Rattle.tcl_expression_evaluation.proofs.UnderWay.{along, along_on, along_all, along_then, steps_shorter, none_left}
use Rattle.tcl_expression_evaluation.proofs.at_hand.number_along.Goals as goal

pub links-init : goal.links-init
links-init c = λ text reads. along c.args.frames.now.frames c.args.style text c.args.nodes.now _ reads

pub links-smaller : goal.links-smaller
links-smaller c = steps_shorter c.links.rest.now c.in-Some.more.now c.in-Some.right.now c.in-Some.operator c.in-Some.ensures

pub links-preserved : goal.links-preserved
links-preserved c = λ text reads.
    let fits : FitsSigned w64 c.in_ok-number.number = search rules in
    rw (to_z-of_z w64 c.in_ok-number.number fits) (along_on c.args.frames.now.frames c.args.style text c.args.nodes.now c.links.rest.now c.in-Some.more.now c.in-Some.right.now c.in-Some.operator _ c.in_ok-number.number
    (c.links.invariant text reads) c.in-Some.ensures fits c.in_ok-number.ensures)

pub returns-then-is_empty : goal.returns-then-is_empty
returns-then-is_empty c = λ text reads.
    along_all c.args.frames.now.frames c.args.style text c.args.nodes.now c.links.rest.now _ (c.links.invariant text (rw (to_z-of_z w64 c.args.first c.ranges.first) reads)) (none_left c.links.rest.now c.is_empty.result c.is_empty.ensures c.if-is_empty.true)

pub returns : goal.returns
returns c = λ text reads.
    along_then c.number_among.result c.args.frames.now.frames c.args.style text c.args.nodes.now c.links.rest.now _ (c.links.invariant text (rw (to_z-of_z w64 c.args.first c.ranges.first) reads)) c.number_among.ensures
