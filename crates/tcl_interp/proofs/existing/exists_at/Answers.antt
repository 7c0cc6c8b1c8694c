use Rattle.std.proofs.Common.{◌∙◌, arith}
use Rattle.std.proofs.lemmas.Fmt.{decimal_digit}
use Rattle.tcl_core.specs.Entries.Entry.{Ask}
use Rattle.tcl_core.specs.Entries.Question.{Exists}
use Rattle.tcl_core.specs.Programs.Act.{Look}
use Rattle.tcl_core.specs.Programs.Prog.{done, act}
use Rattle.tcl_language.specs.Interpreters as interpreters
use Rattle.tcl_language.specs.Interpreters.{asks_at}
use Rattle.std.specs.Prelude.{Ok}
use Rattle.tcl_calls.proofs.Looks.{gets_evaluates, told_evaluates}
use Rattle.tcl_calls.proofs.Reached.{never_outside}
use Rattle.tcl_interp.proofs.Forms.{exists_goes, exists_not}
use Rattle.tcl_interp.proofs.existing.exists_at.Goals as goal

pub unreachable-requires : goal.unreachable-requires
unreachable-requires g c = never_outside c.args.tree.now c.args.place c.args.path.now (λ p at. c.in-Outside.ensures p at) c.requires.0 c.requires.1

pub returns-in-There-clause-evaluates : goal.returns-in-There-clause-evaluates
returns-in-There-clause-evaluates g c = gets_evaluates g.O.Outside.goes c.args.tree.now c.args.outside.now c.args.place (λ style. act Look (λ T. interpreters.exists_at c.args.path.now (T c.args.path.now))) (λ style. asks_at c.args.path.now (Ask Exists) done)
    c.ask_at.new.tree c.ask_at.new.outside c.ask_at.result (exists_goes c.args.tree.now c.args.place c.in-There.field-0 c.args.path.now (λ p at. c.in-There.ensures p at)) c.ask_at.ensures.evaluates

pub returns-in-Missing-clause-evaluates : goal.returns-in-Missing-clause-evaluates
returns-in-Missing-clause-evaluates g c = told_evaluates g.O.Outside.goes c.args.tree.now c.args.outside.now c.args.place (λ style. act Look (λ T. interpreters.exists_at c.args.path.now (T c.args.path.now))) (Ok c.from_int.result)
    (exists_not c.args.tree.now c.args.place c.args.path.now c.from_int.result (λ p at. c.in-Missing.ensures p at) (c.from_int.ensures ∙ decimal_digit 0 (omega arith)))
