use Rattle.std.proofs.Common.{length}
use Rattle.tcl_core.specs.Entries.Entry.{Ask}
use Rattle.tcl_language.specs.Faults.{wrong_args}
use Rattle.tcl_run.specs.Entering.{question_of}
use Rattle.tcl_calls.proofs.EntryTelling.{evaluates_as, fails_told}
use Rattle.tcl_text.proofs.Emptiness.{some_is, zero_is}
use Rattle.tcl_interp.specs.Programs.{questions}
use Rattle.tcl_interp.specs.Subjects.{about, asks_of, form_of}
use Rattle.tcl_interp.proofs.Forms.{asked_alone, asked_wrongly}
use Rattle.tcl_interp.proofs.questions.ask_question.Goals as goal

pub returns-then-not-is_empty-clause-evaluates : goal.returns-then-not-is_empty-clause-evaluates
returns-then-not-is_empty-clause-evaluates g c = fails_told g.O.Outside.goes c.args.tree.now c.args.outside.now c.args.place (λ style. questions (about c.args.subject) c.args.form.now c.args.own.now (question_of c.args.question) c.args.args.now) (wrong_args (form_of (about c.args.subject) c.args.form.now c.args.own.now)) c.wrong_words.result
    (λ style. asked_wrongly (about c.args.subject) c.args.form.now c.args.own.now (question_of c.args.question) c.args.args.now (some_is (length c.args.args.now) c.is_empty.result c.is_empty.ensures c.if-not-is_empty.true)) c.wrong_words.ensures

pub returns-clause-evaluates : goal.returns-clause-evaluates
returns-clause-evaluates g c = evaluates_as g.O.Outside.goes c.args.tree.now c.ask_subject.new.tree c.args.outside.now c.ask_subject.new.outside c.args.place (λ style. questions (about c.args.subject) c.args.form.now c.args.own.now (question_of c.args.question) c.args.args.now)
    (λ style. asks_of (about c.args.subject) (Ask (question_of c.args.question))) c.ask_subject.result
    (λ style. asked_alone (about c.args.subject) c.args.form.now c.args.own.now (question_of c.args.question) c.args.args.now (zero_is (length c.args.args.now) c.is_empty.result c.is_empty.ensures c.if-not-is_empty.false)) c.ask_subject.ensures.evaluates
