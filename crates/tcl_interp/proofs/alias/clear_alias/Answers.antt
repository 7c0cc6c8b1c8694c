use Rattle.std.proofs.Common.{[], ◌∷◌, sym, ap}
use Rattle.tcl_core.specs.Entries.Entry.{ClearAlias}
use Rattle.tcl_core.specs.Paths.{Text}
use Rattle.tcl_calls.proofs.EntryTelling.{evaluates_as}
use Rattle.tcl_interp.specs.Programs.{aliases}
use Rattle.tcl_interp.specs.Subjects.{about, asks_of}
use Rattle.tcl_interp.proofs.alias.clear_alias.Goals as goal

pub returns-clause-evaluates : goal.returns-clause-evaluates
returns-clause-evaluates g c = evaluates_as g.O.Outside.goes c.args.tree.now c.ask_subject.new.tree c.args.outside.now c.ask_subject.new.outside c.args.place (λ style. aliases (about c.args.subject) (c.args.name.now ∷ [] ∷ []))
    (λ style. asks_of (about c.args.subject) (ClearAlias c.in_ok-name.name)) c.ask_subject.result
    (λ style. ap (λ (x : Text). asks_of (about c.args.subject) (ClearAlias x)) (sym c.in_ok-name.ensures)) c.ask_subject.ensures.evaluates
