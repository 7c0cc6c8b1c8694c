use Rattle.std.proofs.Common.{[], ◌∷◌}
use Rattle.std.proofs.lemmas.Result.{err_from_is_err_and}
use Rattle.tcl_core.specs.Entries.Entry.{Ask}
use Rattle.tcl_core.specs.Entries.Question.{CountLimitOf}
use Rattle.tcl_language.specs.Interpreters.{commands_only}
use Rattle.tcl_calls.proofs.Looks.{gets_evaluates}
use Rattle.tcl_interp.specs.Programs.{limits}
use Rattle.tcl_interp.specs.Subjects.{about, asks_of}
use Rattle.tcl_interp.proofs.Subjects.{passed_out}
use Rattle.tcl_interp.proofs.limits.limit_of.Goals as goal

pub returns-in_err-commands_only-clause-evaluates : goal.returns-in_err-commands_only-clause-evaluates
returns-in_err-commands_only-clause-evaluates g c =
    let p = err_from_is_err_and c.from_residual.result c.from_residual.ensures.1 in
    passed_out g.O.Outside.goes c.args.tree.now c.args.outside.now c.args.place (λ rest style. commands_only c.args.word.now (rest style)) (λ style. asks_of (about c.args.subject) (Ask CountLimitOf)) c.from_residual.result c.in_err-commands_only.field-0.0 p.0 p.1 p.2 c.in_err-commands_only.ensures

pub returns-clause-evaluates : goal.returns-clause-evaluates
returns-clause-evaluates g c = gets_evaluates g.O.Outside.goes c.args.tree.now c.args.outside.now c.args.place (λ style. limits style (about c.args.subject) (c.args.word.now ∷ [])) (λ style. asks_of (about c.args.subject) (Ask CountLimitOf)) c.ask_subject.new.tree c.ask_subject.new.outside c.ask_subject.result
    (c.in_ok-commands_only.ensures (λ style. asks_of (about c.args.subject) (Ask CountLimitOf))) c.ask_subject.ensures.evaluates
