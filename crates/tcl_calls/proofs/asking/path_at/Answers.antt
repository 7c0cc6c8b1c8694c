use Rattle.std.proofs.Common.{◌≡◌, subst}
use Rattle.std.proofs.lemmas.Result.{err_from_is_err_and}
use Rattle.tcl_core.specs.Endings.Reply.{Completed}
use Rattle.tcl_core.specs.Paths.{Path, Text}
use Rattle.tcl_language.specs.Interpreters.{no_interpreter}
use Rattle.tcl_run.specs.Ends.{Interrupts, failing}
use Rattle.tcl_run.proofs.Endings.{Interrupts-more, ended_err}
use Rattle.tcl_tree.specs.Reaching.{Leads as Leads_to}
use Rattle.tcl_tree.specs.declared.tree.places.Reach.TheVariants as reach
use Rattle.tcl_calls.proofs.Looks.{path_leads, path_lost, path_misread}
use Rattle.tcl_calls.proofs.Reached.{there_below, never_outside}
use Rattle.tcl_calls.proofs.asking.path_at.Goals as goal

pub returns-in_err-path-clause-read : goal.returns-in_err-path-clause-read
returns-in_err-path-clause-read c =
    let p = err_from_is_err_and c.from_residual.result c.from_residual.ensures.1 in
    ended_err c.from_residual.result c.in_err-path.field-0.0 p.0 _ _ _ p.1 p.2 c.in_err-path.ensures.refused (λ e f rest. path_misread c.args.tree.now c.args.place c.args.text.now e rest f)

pub returns-in-There-clause-found : goal.returns-in-There-clause-found
returns-in-There-clause-found c = there_below c.args.tree.now c.args.place c.in-There.there c.in_ok-path.path.items
    (λ p at. subst (λ (x : Path). Leads_to c.args.tree.now p 0 x (reach.There c.in-There.there)) c.as_slice.ensures.value (c.in-There.ensures p at))

pub returns-in-There-clause-read : goal.returns-in-There-clause-read
returns-in-There-clause-read c = λ rest. path_leads c.args.tree.now c.args.place c.in-There.there c.args.text.now c.in_ok-path.path.items rest c.in_ok-path.ensures.read
    (λ p at. subst (λ (x : Path). Leads_to c.args.tree.now p 0 x (reach.There c.in-There.there)) c.as_slice.ensures.value (c.in-There.ensures p at))

pub returns-in-Missing-clause-read : goal.returns-in-Missing-clause-read
returns-in-Missing-clause-read c = Interrupts-more c.no_interpreter.result _ _ (λ e f rest. path_lost c.args.tree.now c.args.place c.args.text.now c.in_ok-path.path.items e rest c.in_ok-path.ensures.read
    (λ p at. subst (λ (x : Path). Leads_to c.args.tree.now p 0 x reach.Missing) c.as_slice.ensures.value (c.in-Missing.ensures p at)) f)
    (subst (λ (x : Text). Interrupts c.no_interpreter.result (λ e. e ≡ Completed (failing (no_interpreter x)))) c.as_str.ensures c.no_interpreter.ensures)

pub unreachable-requires : goal.unreachable-requires
unreachable-requires c = never_outside c.args.tree.now c.args.place c.as_slice.result.now (λ p at. c.in-Outside.ensures p at) c.requires.0 c.requires.1
