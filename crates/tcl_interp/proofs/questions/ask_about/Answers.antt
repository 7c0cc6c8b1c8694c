use Rattle.std.proofs.Common.{List, ap, ◌∙◌}
use Rattle.tcl_core.specs.Paths.{Text}
use Rattle.tcl_language.specs.Interpreters as interpreters
use Rattle.tcl_run.specs.Entering.{question_of}
use Rattle.tcl_calls.proofs.EntryTelling.{evaluates_as}
use Rattle.tcl_interp.specs.Programs.{questions}
use Rattle.tcl_interp.specs.Subjects.{About, about}
use Rattle.tcl_interp.proofs.Programs.{question_split}
use Rattle.tcl_interp.proofs.questions.ask_about.Goals as goal

pub returns-clause-evaluates : goal.returns-clause-evaluates
returns-clause-evaluates g c = evaluates_as g.O.Outside.goes c.args.tree.now c.ask_question.new.tree c.args.outside.now c.ask_question.new.outside c.args.place (λ style. interpreters.question c.args.form.now (question_of c.args.question) c.args.args.now)
    (λ style. questions (about c.split_path.result.0) c.args.form.now c.args.form.now (question_of c.args.question) c.split_path.result.1.now) c.ask_question.result
    (λ style. question_split c.args.form.now c.args.form.now (question_of c.args.question) c.args.args.now ∙ ap (λ (x : About × List Text). questions x.0 c.args.form.now c.args.form.now (question_of c.args.question) x.1) c.split_path.ensures) c.ask_question.ensures.evaluates
