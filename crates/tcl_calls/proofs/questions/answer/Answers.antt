use Rattle.std.proofs.Common.{◌∙◌, sym, ap}
use Rattle.std.proofs.lemmas.Result.{err_from_is_err_and}
use Rattle.tcl_language.specs.Interpreters.{answer}
use Rattle.tcl_run.specs.Entering.{question_of}
use Rattle.tcl_tree.specs.Nodes.{view_of}
use Rattle.tcl_calls.proofs.Served.{answered, unanswered}
use Rattle.tcl_calls.proofs.questions.answer.Goals as goal

pub returns : goal.returns
returns c = answered c.args.tree.now c.args.place (question_of c.args.question.now) c.in_ok-answer_text.field-0 c.within.result
    (λ p n at is. sym (ap (answer (question_of c.args.question.now)) (c.node.ensures p n at is)) ∙ c.in_ok-answer_text.ensures) c.within.ensures.whole c.within.ensures.refused

pub returns-in_err-answer_text : goal.returns-in_err-answer_text
returns-in_err-answer_text c =
    let p = err_from_is_err_and c.from_residual.result c.from_residual.ensures.1 in
    unanswered c.args.tree.now c.args.place (question_of c.args.question.now) (view_of c.node.result.now) c.from_residual.result c.in_err-answer_text.field-0.0 p.0 p.1 p.2 c.node.ensures c.in_err-answer_text.ensures
