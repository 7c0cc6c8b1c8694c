use Rattle.std.proofs.Common.{◌∙◌, ap}
use Rattle.tcl_core.specs.Endings.Reply.{Completed}
use Rattle.tcl_core.specs.Paths.{Text}
use Rattle.tcl_language.specs.Interpreters as interpreters
use Rattle.tcl_run.specs.Ends.{failing}
use Rattle.tcl_run.proofs.Endings.{Interrupts-more}
use Rattle.tcl_calls.proofs.Reached.{never_outside}
use Rattle.tcl_calls.proofs.Looks.{stands_there, stands_nowhere}
use Rattle.tcl_calls.proofs.looking.stands.Goals as goal

pub unreachable-requires : goal.unreachable-requires
unreachable-requires c = never_outside c.args.tree.now c.args.place c.args.path.now (λ p at. c.in-Outside.ensures p at) c.requires.0 c.requires.1

pub returns-in-There : goal.returns-in-There
returns-in-There c = λ rest. stands_there c.args.tree.now c.args.place c.in-There.field-0 c.args.path.now c.args.word.now rest (λ p at. c.in-There.ensures p at)

pub returns-in_ok-text-in-Missing : goal.returns-in_ok-text-in-Missing
returns-in_ok-text-in-Missing c = Interrupts-more c.no_interpreter.result _ _ (λ e f rest. stands_nowhere c.args.tree.now c.args.place c.args.path.now c.args.word.now e rest (λ p at. c.in-Missing.ensures p at)
    (f ∙ ap (λ (x : Text). Completed (failing (interpreters.no_interpreter x))) (c.as_str.ensures ∙ c.in_ok-text-in-Missing.ensures))) c.no_interpreter.ensures
