use Rattle.std.proofs.Common.{◌∙◌, List, ◌∷◌, ◌++◌, ap}
use Rattle.tcl_core.specs.Entries.Entry.{SetAlias}
use Rattle.tcl_core.specs.Paths.{Text}
use Rattle.tcl_language.specs.Interpreters.{asks_at, with_text}
use Rattle.tcl_calls.proofs.EntryTelling.{evaluates_as}
use Rattle.tcl_interp.specs.Programs.{given}
use Rattle.tcl_interp.proofs.Forms.{given_asked}
use Rattle.tcl_interp.proofs.alias.set_alias.Goals as goal

pub returns-clause-evaluates : goal.returns-clause-evaluates
returns-clause-evaluates g c = evaluates_as g.O.Outside.goes c.args.tree.now c.ask_telling.new.tree c.args.outside.now c.ask_telling.new.outside c.args.place (λ style. given c.args.path.now c.args.goal.now c.args.name.now (c.args.word.now ∷ c.args.words.now))
    (λ style. asks_at c.args.path.now (SetAlias c.in_ok-name.name c.in_ok-alias.alias.up c.in_ok-alias.alias.down c.in_ok-alias.alias.words) (with_text c.in_ok-told.told)) c.ask_telling.result
    (λ style. given_asked c.args.path.now c.args.goal.now c.args.name.now c.in_ok-name.name c.in_ok-told.told (c.args.word.now ∷ c.args.words.now) c.in_ok-own.own.items c.in_ok-alias.alias
    c.in_ok-name.ensures c.in_ok-told.ensures.cases (c.in_ok-own.ensures ∙ ap (λ (xs : List Text). xs ++ c.args.words.now) c.from_ref.ensures.value) c.in_ok-alias.ensures.made) c.ask_telling.ensures.evaluates
