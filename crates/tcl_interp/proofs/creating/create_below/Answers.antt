use Rattle.std.proofs.Common.{Some, sym, ap, ◌∙◌}
use Rattle.std.proofs.lemmas.Result.{err_from_is_err_and}
use Rattle.tcl_core.specs.Entries.Entry.{Create}
use Rattle.tcl_core.specs.Paths.{Text}
use Rattle.tcl_language.specs.Interpreters as interpreters
use Rattle.tcl_language.specs.Interpreters.{asks_at, with_text}
use Rattle.tcl_run.proofs.Endings.{Interrupts-more}
use Rattle.tcl_calls.specs.Looking.{GetsToEnd}
use Rattle.tcl_calls.proofs.Looks.{gets_evaluates, passes_evaluates}
use Rattle.tcl_calls.proofs.EntryTelling.{evaluates_as}
use Rattle.tcl_interp.proofs.creating.create_below.Goals as goal

pub returns-in_err-stands-clause-evaluates : goal.returns-in_err-stands-clause-evaluates
returns-in_err-stands-clause-evaluates g c =
    let p = err_from_is_err_and c.from_residual.result c.from_residual.ensures.1 in
    passes_evaluates g.O.Outside.goes c.args.tree.now c.args.outside.now c.args.place (λ style. interpreters.makes_at c.args.word.now c.args.safe (c.args.above.now, c.args.name.now)) c.from_residual.result c.in_err-stands.field-0.0 p.0 p.1 p.2
    (Interrupts-more c.in_err-stands.field-0.0 _ (GetsToEnd c.args.tree.now c.args.place (λ style. interpreters.makes_at c.args.word.now c.args.safe (c.args.above.now, c.args.name.now)))
    (λ e f. f (λ style. asks_at c.args.above.now (Create (Some c.args.name.now) c.args.safe) (with_text c.args.word.now))) c.in_err-stands.ensures)

pub returns-clause-evaluates : goal.returns-clause-evaluates
returns-clause-evaluates g c = gets_evaluates g.O.Outside.goes c.args.tree.now c.args.outside.now c.args.place (λ style. interpreters.makes_at c.args.word.now c.args.safe (c.args.above.now, c.args.name.now))
    (λ style. asks_at c.args.above.now (Create (Some c.args.name.now) c.args.safe) (with_text c.args.word.now)) c.ask_telling.new.tree c.ask_telling.new.outside c.ask_telling.result
    (c.in_ok-stands.ensures (λ style. asks_at c.args.above.now (Create (Some c.args.name.now) c.args.safe) (with_text c.args.word.now)))
    (evaluates_as g.O.Outside.goes c.args.tree.now c.ask_telling.new.tree c.args.outside.now c.ask_telling.new.outside c.args.place (λ style. asks_at c.args.above.now (Create (Some c.args.name.now) c.args.safe) (with_text c.args.word.now))
    (λ style. asks_at c.args.above.now (Create (Some c.in_ok-clone.field-0) c.args.safe) (with_text c.in_ok-told.told)) c.ask_telling.result
    (λ style. ap (λ (x : Text). asks_at c.args.above.now (Create (Some x) c.args.safe) (with_text c.args.word.now)) (sym c.in_ok-clone.ensures.cases) ∙ ap (λ (x : Text). asks_at c.args.above.now (Create (Some c.in_ok-clone.field-0) c.args.safe) (with_text x)) (sym c.in_ok-told.ensures.cases))
    c.ask_telling.ensures.evaluates)
