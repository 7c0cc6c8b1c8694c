use Rattle.std.proofs.Common.{[], ◌∷◌}
use Rattle.tcl_language.specs.Definitions as definitions
use Rattle.tcl_language.specs.Interpreters.{done_so, renaming}
use Rattle.tcl_language.specs.Naming.{renamed}
use Rattle.tcl_run.proofs.Keeping.{level_loses}
use Rattle.tcl_run.proofs.Steady.{level_here}
use Rattle.tcl_calls.proofs.Looks.{untrue}
use Rattle.tcl_calls.proofs.EntryTelling.{evaluates_as}
use Rattle.tcl_interp.proofs.Forms.{renamed_away, renamed_other}
use Rattle.tcl_interp.proofs.Stepping.{acts_evaluates}
use Rattle.tcl_interp.proofs.naming.rename_as.Goals as goal

pub returns-then-is_text-clause-evaluates : goal.returns-then-is_text-clause-evaluates
returns-then-is_text-clause-evaluates g c = evaluates_as g.O.Outside.goes c.args.tree.now c.take_away.new.tree c.args.outside.now c.take_away.new.outside c.args.place (λ style. definitions.rename (c.args.old.now ∷ c.args.new.now ∷ [])) (λ style. definitions.takes_away c.args.old.now) c.take_away.result
    (λ style. renamed_away c.args.old.now c.args.new.now (c.is_text.ensures.0 c.if-is_text.true)) c.take_away.ensures.evaluates

pub returns-clause-evaluates : goal.returns-clause-evaluates
returns-clause-evaluates g c = evaluates_as g.O.Outside.goes c.args.tree.now c.rename_to.new.tree c.args.outside.now c.args.outside.now c.args.place (λ style. definitions.rename (c.args.old.now ∷ c.args.new.now ∷ [])) (λ style. renaming done_so (λ own. renamed own c.args.old.now c.args.new.now)) c.rename_to.result
    (λ style. renamed_other c.args.old.now c.args.new.now (untrue c.is_text.result _ c.is_text.ensures.1 c.if-is_text.false))
    (acts_evaluates g.O.Outside.goes c.args.tree.now c.rename_to.new.tree c.args.outside.now c.args.place (λ style. renaming done_so (λ own. renamed own c.args.old.now c.args.new.now)) c.rename_to.result c.rename_to.ensures.acts)

pub returns-clause-keeps : goal.returns-clause-keeps
returns-clause-keeps g c = level_loses _ c.rename_to.ensures.level

pub returns-clause-here : goal.returns-clause-here
returns-clause-here g c = level_here c.args.tree.now c.rename_to.new.tree c.args.place c.rename_to.ensures.level
