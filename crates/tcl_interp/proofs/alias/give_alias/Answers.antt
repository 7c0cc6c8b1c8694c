use Rattle.std.proofs.Common.{[], ◌∷◌, ap}
use Rattle.tcl_calls.proofs.EntryTelling.{evaluates_as}
use Rattle.tcl_interp.specs.Programs.{given, gives_alias}
use Rattle.tcl_interp.specs.Subjects.{About, about, on_path}
use Rattle.tcl_interp.proofs.Forms.{given_by_child, given_by_itself}
use Rattle.tcl_interp.proofs.alias.give_alias.Goals as goal

pub returns-in-Itself-clause-evaluates : goal.returns-in-Itself-clause-evaluates
returns-in-Itself-clause-evaluates g c = evaluates_as g.O.Outside.goes c.args.tree.now c.give_alias_at.new.tree c.args.outside.now c.give_alias_at.new.outside c.args.place (λ style. gives_alias (about c.args.subject) c.args.name.now c.args.target.now c.args.words.now)
    (λ style. gives_alias (on_path c.empty-source.result) c.args.name.now c.args.target.now c.args.words.now) c.give_alias_at.result
    (λ style. given_by_itself (about c.args.subject) c.empty-source.result c.args.name.now c.args.target.now c.args.words.now (ap about c.in-Itself.is) c.empty-source.ensures) c.give_alias_at.ensures.evaluates

pub returns-in-Path-clause-evaluates : goal.returns-in-Path-clause-evaluates
returns-in-Path-clause-evaluates g c = evaluates_as g.O.Outside.goes c.args.tree.now c.give_alias_at-in-Path.new.tree c.args.outside.now c.give_alias_at-in-Path.new.outside c.args.place (λ style. gives_alias (about c.args.subject) c.args.name.now c.args.target.now c.args.words.now)
    (λ style. gives_alias (on_path c.in-Path.source.now) c.args.name.now c.args.target.now c.args.words.now) c.give_alias_at-in-Path.result
    (λ style. ap (λ (x : About). gives_alias x c.args.name.now c.args.target.now c.args.words.now) (ap about c.in-Path.is)) c.give_alias_at-in-Path.ensures.evaluates

pub returns-in-Child-clause-evaluates : goal.returns-in-Child-clause-evaluates
returns-in-Child-clause-evaluates g c = evaluates_as g.O.Outside.goes c.args.tree.now c.set_alias.new.tree c.args.outside.now c.set_alias.new.outside c.args.place (λ style. gives_alias (about c.args.subject) c.args.name.now c.args.target.now c.args.words.now)
    (λ style. given c.from_ref-path.result.now [] c.args.name.now (c.args.target.now ∷ c.args.words.now)) c.set_alias.result
    (λ style. given_by_child (about c.args.subject) c.in-Child.child.now c.from_ref-path.result.now c.args.name.now c.args.target.now c.args.words.now (ap about c.in-Child.is) c.from_ref-path.ensures.value) c.set_alias.ensures.evaluates
