use Rattle.std.proofs.Common.{◌+◌, ◌*◌, [], get_or, length, sym, ◌∙◌, ap, subst, arith}
use Rattle.std.proofs.lemmas.Result.{err_from_is_err_and}
use Rattle.tcl_language.specs.Instructions.{Program}
use Rattle.tcl_run.specs.Plain.{Does}
use Rattle.tcl_run.proofs.Endings.{ended_err}
use Rattle.tcl_tree.specs.TreeOf.{tree_of}
use Rattle.tcl_calls.proofs.Walking.{step_on}
use Rattle.tcl_calls.proofs.walks.set_walk.Goals as goal

pub returns-in_err-set_variable-clause-set : goal.returns-in_err-set_variable-clause-set
returns-in_err-set_variable-clause-set c =
    let p = err_from_is_err_and c.from_residual-in_err-set_variable.result c.from_residual-in_err-set_variable.ensures.1 in
    ended_err c.from_residual-in_err-set_variable.result c.in_err-set_variable.field-0.0 p.0 _ _ _ p.1 p.2 c.in_err-set_variable.ensures.set
    (λ e h q at k. c.names.invariant.sets q at k _ e
    (subst (λ (x : Program). Does x (tree_of c.names.tree) q (tree_of c.set_variable.new.tree) e)
    (sym (step_on c.args.walk.now.names c.args.walk.now.elements c.names.index (c.args.turns * length c.args.walk.now.names + c.names.index) c.get-name.result.now c.in_ok-value.value k
    (let t = c.names-test.true in omega (arith, t, c.len-count.ensures)) c.get-name.ensures (c.in_ok-value.ensures ∙ ap (λ n. get_or c.args.walk.now.elements (c.args.turns * n + c.names.index) []) c.len-count.ensures)))
    (h q (c.names.invariant.level.keys q ∙ at) _)))
