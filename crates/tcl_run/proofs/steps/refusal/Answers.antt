use Rattle.std.proofs.Common.{refl, sym, subst, ◌∙◌}
use Rattle.tcl_core.specs.Endings.{Reply}
use Rattle.tcl_core.specs.Paths.{Path}
use Rattle.tcl_run.proofs.Endings.{Says-more}
use Rattle.tcl_run.specs.Runs.{RefusesStep}
use Rattle.tcl_run.specs.Runs.RefusesStep.{by_limit, from_outside}
use Rattle.tcl_tree.specs.TreeOf.{tree_of, Names}
use Rattle.tcl_run.proofs.steps.refusal.Goals as goal

pub returns-in-Some-clause-refused : goal.returns-in-Some-clause-refused
returns-in-Some-clause-refused g c =
    let Refuses : Path → Reply → Type 0 = λ p e. RefusesStep g.O.Outside.goes (tree_of c.args.tree.now) c.args.outside.now p (tree_of c.args.tree.now) c.args.outside.now e in
    Says-more c.past_limit.result _ (λ e. (p : Path) → Names c.args.tree.now c.args.place p → Refuses p e)
    (λ e same p at. subst (Refuses p) (sym same) (by_limit c.in-Some.levels (sym (c.spent_at.ensures p at) ∙ c.in-Some.is) refl)) c.past_limit.ensures

pub returns-in-None-clause-refused : goal.returns-in-None-clause-refused
returns-in-None-clause-refused g c = λ p at. from_outside (sym (c.spent_at.ensures p at) ∙ c.in-None.is) refl (c.refuses_step.ensures.told c.requires.refuses (tree_of c.args.tree.now) p)
