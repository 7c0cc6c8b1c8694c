use Rattle.std.proofs.Common.{Some, sym, ap, ◌∙◌}
use Rattle.std.proofs.lemmas.Result.{err_from_is_err_and}
use Rattle.tcl_language.specs.Definitions as definitions
use Rattle.tcl_language.specs.Interpreters.{done_so, renaming}
use Rattle.tcl_language.specs.Naming.{command_name, removed}
use Rattle.tcl_run.proofs.Endings.{Interrupts-more}
use Rattle.tcl_run.proofs.Keeping.{level_loses}
use Rattle.tcl_run.proofs.Steady.{level_here}
use Rattle.tcl_calls.specs.Asking.{EndsIn}
use Rattle.tcl_tree.specs.TreeOf.{tree_of}
use Rattle.tcl_calls.proofs.Looks.{gets_evaluates}
use Rattle.tcl_calls.proofs.EntryTelling.{passes}
use Rattle.tcl_interp.proofs.Forms.{child_goes, child_is_named, removed_goes}
use Rattle.tcl_interp.proofs.Stepping.{acts_evaluates}
use Rattle.tcl_interp.proofs.naming.take_away.Goals as goal

pub returns-then-not-is_child-clause-evaluates : goal.returns-then-not-is_child-clause-evaluates
returns-then-not-is_child-clause-evaluates g c = gets_evaluates g.O.Outside.goes c.args.tree.now c.args.outside.now c.args.place (λ style. definitions.takes_away c.args.word.now) (λ style. renaming done_so (λ own. removed own c.args.word.now)) c.remove.new.tree c.args.outside.now c.remove.result
    (removed_goes c.args.tree.now c.args.place c.args.word.now (λ p n at is. sym c.if-not-is_child.true ∙ c.in_ok-is_child.ensures p n at is))
    (acts_evaluates g.O.Outside.goes c.args.tree.now c.remove.new.tree c.args.outside.now c.args.place (λ style. renaming done_so (λ own. removed own c.args.word.now)) c.remove.result c.remove.ensures.acts)

pub returns-then-not-is_child-clause-keeps : goal.returns-then-not-is_child-clause-keeps
returns-then-not-is_child-clause-keeps g c = level_loses _ c.remove.ensures.level

pub returns-then-not-is_child-clause-here : goal.returns-then-not-is_child-clause-here
returns-then-not-is_child-clause-here g c = level_here c.args.tree.now c.remove.new.tree c.args.place c.remove.ensures.level

pub returns-in_err-name-clause-evaluates : goal.returns-in_err-name-clause-evaluates
returns-in_err-name-clause-evaluates g c =
    let p = err_from_is_err_and c.from_residual-in_err-name.result c.from_residual-in_err-name.ensures.1 in
    passes g.O.Outside.goes c.args.tree.now c.args.tree.now c.args.outside.now c.args.outside.now c.args.place (λ style. definitions.takes_away c.args.word.now) c.from_residual-in_err-name.result c.in_err-name.field-0.0 p.0 p.1 p.2
    (Interrupts-more c.in_err-name.field-0.0 _ (EndsIn g.O.Outside.goes c.args.tree.now c.args.outside.now c.args.place (λ style. definitions.takes_away c.args.word.now) (tree_of c.args.tree.now) c.args.outside.now)
    (λ e f. absurd (child_is_named c.args.tree.now c.args.place c.args.word.now c.requires.0 c.requires.1 (λ p n at is. sym c.if-not-is_child.false ∙ c.in_ok-is_child.ensures p n at is) (ap command_name (sym c.in_ok-text.ensures) ∙ f.0))) c.in_err-name.ensures.refused)

pub returns-clause-evaluates : goal.returns-clause-evaluates
returns-clause-evaluates g c = gets_evaluates g.O.Outside.goes c.args.tree.now c.args.outside.now c.args.place (λ style. definitions.takes_away c.args.word.now) (λ style. definitions.deletes_child (Some c.in_ok-name.name)) c.delete_child.new.tree c.delete_child.new.outside c.delete_child.result
    (child_goes c.args.tree.now c.args.place c.args.word.now c.in_ok-name.name (λ p n at is. sym c.if-not-is_child.false ∙ c.in_ok-is_child.ensures p n at is) (ap command_name (sym c.in_ok-text.ensures) ∙ c.in_ok-name.ensures.kept))
    c.delete_child.ensures.evaluates
