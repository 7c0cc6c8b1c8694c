use Rattle.std.proofs.Common.{◌∙◌, ◌+◌, ◌<◌, length, ap, arith, drop}
use Rattle.std.proofs.lemmas.Bool.Decides.{nat_tests}
use Rattle.tcl_expression_evaluation.specs.Steps.{goes, mode_of}
use Rattle.tcl_expression_evaluation.proofs.Going.{left_on, left_past, nests}
use Rattle.tcl_expression_evaluation.proofs.evaluation.Evaluation.skip.Goals as goal

pub marks-preserved : goal.marks-preserved
marks-preserved c =
    let is = c.passed.ensures ∙ ap mode_of c.in-Some-passed.is in
    let l = c.in-Some.ensures.lookup.0 in
    let within : c.marks.self.next < length c.args.nodes.now = grind (arith, nat_tests) in
    record {
      goes_on = λ style s. c.marks.invariant.goes_on style s ∙ left_on style c.args.nodes.now c.marks.self.next c.marks.depth c.in-Some.node.now s within c.in-Some.ensures.lookup.1 ∙ ap (λ m. goes style (drop (c.marks.self.next + 1) c.args.nodes.now) m s) is;
      values = c.marks.invariant.values;
      nested = omega (arith, nests c.in-Some.node.now c.marks.depth c.in-Some-passed.deeper is, c.marks.invariant.nested);
      later = omega (arith, c.marks.invariant.later);
    }

pub returns-in-None-clause-goes : goal.returns-in-None-clause-goes
returns-in-None-clause-goes c = λ style s.
    let l = c.in-Some.ensures.lookup.0 in
    let within : c.marks.self.next < length c.args.nodes.now = grind (arith, nat_tests) in
    c.marks.invariant.goes_on style s ∙ left_on style c.args.nodes.now c.marks.self.next c.marks.depth c.in-Some.node.now s within c.in-Some.ensures.lookup.1 ∙ ap (λ m. goes style (drop (c.marks.self.next + 1) c.args.nodes.now) m s) (c.passed.ensures ∙ ap mode_of c.in-None.is)

pub returns-clause-goes : goal.returns-clause-goes
returns-clause-goes c = λ style s. c.marks.invariant.goes_on style s ∙ left_past style c.args.nodes.now c.marks.self.next c.marks.depth s c.in_default.ensures.lookup.3
