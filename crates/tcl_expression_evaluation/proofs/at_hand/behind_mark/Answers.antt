use Rattle.std.proofs.Common.{◌∙◌, ap, arith}
use Rattle.tcl_expression_evaluation.specs.Steps.{leaving, doing, mode_of}
use Rattle.tcl_expression_evaluation.proofs.Going.{left_next, left_nothing, nests}
use Rattle.tcl_expression_evaluation.proofs.UnderWay.{none_of}
use Rattle.tcl_expression_evaluation.proofs.at_hand.behind_mark.Goals as goal

pub marks-preserved : goal.marks-preserved
marks-preserved c =
    let is = c.passed.ensures ∙ ap mode_of c.in-Some-passed.is in
    record {
      goes_on = λ style texts. c.marks.invariant.goes_on style texts ∙ left_next style c.marks.rest.now c.in-Some.more.now c.in-Some.node.now c.marks.depth (leaving c.in-Some-passed.deeper) texts c.in-Some.ensures.cases.0 is;
      nested = omega (arith, nests c.in-Some.node.now c.marks.depth c.in-Some-passed.deeper is, c.marks.invariant.nested, c.in-Some.ensures.cases.1);
    }

pub returns-in-None-clause-goes : goal.returns-in-None-clause-goes
returns-in-None-clause-goes c = λ style texts.
    c.marks.invariant.goes_on style texts ∙ left_next style c.marks.rest.now c.in-Some.more.now c.in-Some.node.now c.marks.depth doing texts c.in-Some.ensures.cases.0 (c.passed.ensures ∙ ap mode_of c.in-None.is)

pub returns-clause-goes : goal.returns-clause-goes
returns-clause-goes c = λ style texts. c.marks.invariant.goes_on style texts ∙ left_nothing style c.marks.rest.now c.marks.depth texts (none_of c.marks.rest.now c.in_default.ensures.cases)
