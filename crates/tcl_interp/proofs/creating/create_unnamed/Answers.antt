use Rattle.std.proofs.Common.{[], Some, sym, ap, ◌∙◌}
use Rattle.tcl_core.specs.Entries.Entry.{Create}
use Rattle.tcl_core.specs.Paths.{Text}
use Rattle.tcl_language.specs.Interpreters as interpreters
use Rattle.tcl_language.specs.Interpreters.{asks_at, with_text}
use Rattle.tcl_calls.proofs.Looks.{gets_evaluates}
use Rattle.tcl_calls.proofs.EntryTelling.{evaluates_as}
use Rattle.tcl_interp.proofs.Forms.{unnamed_goes}
use Rattle.tcl_interp.proofs.creating.create_unnamed.Goals as goal

pub returns-clause-evaluates : goal.returns-clause-evaluates
returns-clause-evaluates g c = gets_evaluates g.O.Outside.goes c.args.tree.now c.args.outside.now c.args.place (λ style. interpreters.create_path c.args.safe [])
    (λ style. asks_at [] (Create (Some c.in_ok-name.name) c.args.safe) (with_text c.in_ok-name.name)) c.ask_telling.new.tree c.ask_telling.new.outside c.ask_telling.result
    (unnamed_goes c.args.tree.now c.args.place c.args.safe c.in_ok-name.name c.in_ok-name.ensures.free)
    (evaluates_as g.O.Outside.goes c.args.tree.now c.ask_telling.new.tree c.args.outside.now c.ask_telling.new.outside c.args.place (λ style. asks_at [] (Create (Some c.in_ok-name.name) c.args.safe) (with_text c.in_ok-name.name))
    (λ style. asks_at [] (Create (Some c.in_ok-name.name) c.args.safe) (with_text c.from_short_text-told.result)) c.ask_telling.result
    (λ style. ap (λ (x : Text). asks_at [] (Create (Some c.in_ok-name.name) c.args.safe) (with_text x)) (sym c.in_ok-clone.ensures.cases ∙ sym c.from_short_text-told.ensures))
    c.ask_telling.ensures.evaluates)
