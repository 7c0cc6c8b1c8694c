use Rattle.std.proofs.Common.{ℕ, refl, subst}
use Rattle.tcl_run.specs.Runs.{ways}
use Rattle.tcl_eval.specs.Running.{IsGivenUp, unfit}
use Rattle.tcl_eval.proofs.Starting.{at_none, counts_after, counts_stay}
use Rattle.tcl_eval.proofs.running.open_run.Goals as goal

pub returns-in-Err-clause-given_up : goal.returns-in-Err-clause-given_up
returns-in-Err-clause-given_up g c =
    at_none (unfit c.args.tree.now c.args.path.now c.args.script.now c.args.limit) _
    (subst (λ (most : ℕ). IsGivenUp (ways g.O.Outside.goes g.O.Outside.loses) c.args.tree.now c.args.outside.now c.args.path.now c.args.script.now most c.run.new.outside) c.in_ok-start.ensures.most c.in-Err.ensures.given_up)

pub returns-in_err-start-clause-counted : goal.returns-in_err-start-clause-counted
returns-in_err-start-clause-counted g c = counts_stay c.args.tree.now c.args.tree.now c.args.path.now c.args.limit refl

pub returns-in-Ok-clause-counted : goal.returns-in-Ok-clause-counted
returns-in-Ok-clause-counted g c = c.run.ensures.counted c.args.limit c.in_ok-start.ensures.most

pub returns-in-Err-clause-counted : goal.returns-in-Err-clause-counted
returns-in-Err-clause-counted g c = counts_after c.args.tree.now c.run.new.tree c.mark_broken.new.self c.args.path.now c.args.limit (c.run.ensures.counted c.args.limit c.in_ok-start.ensures.most) c.mark_broken.ensures.tree c.mark_broken.ensures.keys
