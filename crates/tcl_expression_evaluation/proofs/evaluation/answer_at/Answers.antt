use Rattle.std.proofs.Common.{◌∙◌, ap, sym, true, false, Ok}
use Rattle.std.proofs.lemmas.Result.{err_from_is_err_and}
use Rattle.tcl_expression_evaluation.specs.Apply.{answer}
use Rattle.tcl_expression_evaluation.specs.Computations.{needing, decided}
use Rattle.tcl_expression_evaluation.proofs.Needs.{and_refused, or_refused}
use Rattle.tcl_expression_evaluation.proofs.evaluation.answer_at.Goals as goal

pub returns-in_err-truth_of-in-And-clause-answers : goal.returns-in_err-truth_of-in-And-clause-answers
returns-in_err-truth_of-in-And-clause-answers c =
    let p = err_from_is_err_and c.from_residual.result c.from_residual.ensures.1 in
    rw (p.1, p.2) (and_refused c.args.style c.args.operator c.args.first.now c.in_err-truth_of-in-And.field-0.0 c.in-And.is c.in_err-truth_of-in-And.ensures.truth)

pub returns-in_err-truth_of-in-Or-clause-answers : goal.returns-in_err-truth_of-in-Or-clause-answers
returns-in_err-truth_of-in-Or-clause-answers c =
    let p = err_from_is_err_and c.from_residual-in_err-truth_of-in-Or.result c.from_residual-in_err-truth_of-in-Or.ensures.1 in
    rw (p.1, p.2) (or_refused c.args.style c.args.operator c.args.first.now c.in_err-truth_of-in-Or.field-0.0 c.in-Or.is c.in_err-truth_of-in-Or.ensures.truth)

pub returns-then-branch-clause-answers : goal.returns-then-branch-clause-answers
returns-then-branch-clause-answers c = λ second k. ap (λ o. needing c.args.style o c.args.first.now second k) c.in-And.is ∙ ap (λ r. decided r second (k (answer false))) (c.in_ok-truth_of-in-And.ensures.truth ∙ ap Ok c.if-branch.true)

pub returns-else-branch-clause-answers : goal.returns-else-branch-clause-answers
returns-else-branch-clause-answers c = λ second k. ap (λ o. needing c.args.style o c.args.first.now second k) c.in-And.is ∙ ap (λ r. decided r second (k (answer false))) (c.in_ok-truth_of-in-And.ensures.truth ∙ ap Ok c.if-branch.false) ∙ ap k (sym c.answer.ensures)

pub returns-then-branch-2-clause-answers : goal.returns-then-branch-2-clause-answers
returns-then-branch-2-clause-answers c = λ second k. ap (λ o. needing c.args.style o c.args.first.now second k) c.in-Or.is ∙ ap (λ r. decided r (k (answer true)) second) (c.in_ok-truth_of-in-Or.ensures.truth ∙ ap Ok c.if-branch-2.true) ∙ ap k (sym c.answer-then-branch-2.ensures)

pub returns-else-branch-2-clause-answers : goal.returns-else-branch-2-clause-answers
returns-else-branch-2-clause-answers c = λ second k. ap (λ o. needing c.args.style o c.args.first.now second k) c.in-Or.is ∙ ap (λ r. decided r (k (answer true)) second) (c.in_ok-truth_of-in-Or.ensures.truth ∙ ap Ok c.if-branch-2.false)
