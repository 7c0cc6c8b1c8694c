use Rattle.std.proofs.Common.{Some}
use Rattle.std.proofs.lemmas.Result.{err_from_is_err_and}
use Rattle.tcl_language.specs.Definitions as definitions
use Rattle.tcl_calls.proofs.EntryTelling.{passes}
use Rattle.tcl_interp.proofs.Stepping.{deleted_done, deleted_end}
use Rattle.tcl_interp.proofs.naming.delete_child.Goals as goal

pub returns-in_err-delete_there-clause-evaluates : goal.returns-in_err-delete_there-clause-evaluates
returns-in_err-delete_there-clause-evaluates g c =
    let p = err_from_is_err_and c.from_residual-in_err-delete_there.result c.from_residual-in_err-delete_there.ensures.1 in
    passes g.O.Outside.goes c.args.tree.now c.delete_there.new.tree c.args.outside.now c.delete_there.new.outside c.args.place (λ style. definitions.deletes_child (Some c.args.name.now)) c.from_residual-in_err-delete_there.result c.in_err-delete_there.field-0.0 p.0 p.1 p.2
    (deleted_end g.O.Outside.goes c.args.tree.now c.delete_there.new.tree c.args.outside.now c.delete_there.new.outside c.args.place c.args.name.now c.in_ok-path.path c.in_err-delete_there.field-0.0 c.in_ok-path.ensures c.in_err-delete_there.ensures.steps)

pub returns-clause-evaluates : goal.returns-clause-evaluates
returns-clause-evaluates g c = deleted_done g.O.Outside.goes c.args.tree.now c.delete_there.new.tree c.args.outside.now c.delete_there.new.outside c.args.place c.args.name.now c.in_ok-path.path c.empty.result c.in_ok-path.ensures c.in_ok-delete_there.ensures.steps c.empty.ensures
