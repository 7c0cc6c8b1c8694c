use Rattle.std.proofs.Common.{◌+◌, List, drop, sym, ◌∙◌, ap, subst}
use Rattle.std.proofs.lemmas.Result.{err_from_is_err_and}
use Rattle.tcl_language.specs.Control.{sets_walks}
use Rattle.tcl_language.specs.Instructions.{Program}
use Rattle.tcl_run.specs.Plain.{Does}
use Rattle.tcl_run.proofs.Endings.{ended_err}
use Rattle.tcl_run.proofs.Steady.{level-trans}
use Rattle.tcl_tree.specs.TreeOf.{tree_of}
use Rattle.tcl_calls.specs.Walks.{walks_at}
use Rattle.tcl_calls.specs.declared.walks.Walk.{Walk}
use Rattle.tcl_calls.proofs.Walking.{walk_on}
use Rattle.tcl_calls.proofs.walks.set_each.Goals as goal

pub returns-in_err-set_walk-clause-set : goal.returns-in_err-set_walk-clause-set
returns-in_err-set_walk-clause-set c =
    let p = err_from_is_err_and c.from_residual.result c.from_residual.ensures.1 in
    let item = walk_on c.args.walks.now c.walks.walk-index c.walk-item.result c.walks-test.true c.walk-item.is in
    ended_err c.from_residual.result c.in_err-set_walk.field-0.0 p.0 _ _ _ p.1 p.2 c.in_err-set_walk.ensures.set
    (λ e h q at k. c.walks.invariant.sets q at k _ e
    (subst (λ (x : Program). Does x (tree_of c.walks.tree) q (tree_of c.set_walk.new.tree) e) (sym (ap (λ (ws : List Walk). sets_walks (walks_at c.args.turns ws) (λ rest. k)) item))
    (h q (c.walks.invariant.level.keys q ∙ at) (sets_walks (walks_at c.args.turns (drop (c.walks.walk-index + 1) c.args.walks.now)) (λ rest. k)))))

pub walks-preserved : goal.walks-preserved
walks-preserved c =
    let item = walk_on c.args.walks.now c.walks.walk-index c.walk-item.result c.walks-test.true c.walk-item.is in
    record {
      sets = λ q at k V r d. c.walks.invariant.sets q at k V r
          (subst (λ (x : Program). Does x (tree_of c.walks.tree) q V r) (sym (ap (λ (ws : List Walk). sets_walks (walks_at c.args.turns ws) (λ rest. k)) item))
          (c.in_ok-set_walk.ensures.set q (c.walks.invariant.level.keys q ∙ at) (sets_walks (walks_at c.args.turns (drop (c.walks.walk-index + 1) c.args.walks.now)) (λ rest. k)) V r d));
      level = level-trans c.args.tree.now c.walks.tree c.set_walk.new.tree c.walks.invariant.level c.in_ok-set_walk.ensures.level;
    }
