use Rattle.std.proofs.Common.{sym, subst}
use Rattle.tcl_core.specs.Endings.{Reply}
use Rattle.tcl_core.specs.Paths.{Path}
use Rattle.tcl_run.proofs.Endings.{Says-more}
use Rattle.tcl_run.proofs.Steady.{charged_level}
use Rattle.tcl_run.specs.Runs.{RefusesStep}
use Rattle.tcl_run.specs.Runs.RefusesStep.{by_limit}
use Rattle.tcl_tree.specs.TreeOf.{tree_of, Names}
use Rattle.tcl_run.proofs.steps.charge.Goals as goal

pub returns-in-Err-clause-refused : goal.returns-in-Err-clause-refused
returns-in-Err-clause-refused g c =
    let Refuses : Path → Reply → Type 0 = λ p e. RefusesStep g.O.Outside.goes (tree_of c.args.tree.now) c.args.outside.now p (tree_of c.charge_at.new.self) c.args.outside.now e in
    Says-more c.past_limit.result _ (λ e. (p : Path) → Names c.args.tree.now c.args.place p → Refuses p e)
    (λ e same p at. let full = c.in-Err.ensures.refused p at in subst (Refuses p) (sym same) (by_limit c.in-Err.levels full.0 full.1)) c.past_limit.ensures

pub returns-in-Ok-clause-level : goal.returns-in-Ok-clause-level
returns-in-Ok-clause-level g c =
    let made = c.in-Ok.ensures.charged c.requires.0 c.requires.1 in
    charged_level c.args.tree.now c.charge_at.new.self c.requires.0 c.charge_at.ensures.marks c.charge_at.ensures.keys c.charge_at.ensures.held made.0 made.1
