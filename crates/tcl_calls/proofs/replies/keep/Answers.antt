use Rattle.std.proofs.Common.{refl}
use Rattle.std.proofs.lemmas.Result.{err_from_is_err_and}
use Rattle.tcl_core.specs.Endings.{ok}
use Rattle.tcl_core.specs.Programs.Prog.{done}
use Rattle.tcl_run.proofs.Endings.{ended_err}
use Rattle.tcl_tree.specs.TreeOf.{tree_of}
use Rattle.tcl_calls.proofs.replies.keep.Goals as goal

pub returns-clause-acts : goal.returns-clause-acts
returns-clause-acts c = λ p style there. c.in_ok-set_named.ensures.set p there.names (done (ok c.args.number)) (tree_of c.set_named.new.tree) _ (refl, refl)

pub returns-in_err-set_named-clause-acts : goal.returns-in_err-set_named-clause-acts
returns-in_err-set_named-clause-acts c =
    let p = err_from_is_err_and c.from_residual.result c.from_residual.ensures.1 in
    ended_err c.from_residual.result c.in_err-set_named.field-0.0 p.0 _ _ _ p.1 p.2 c.in_err-set_named.ensures.set (λ e h q style there. h q there.names (done (ok c.args.number)))
