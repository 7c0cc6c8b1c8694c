use Rattle.std.proofs.lemmas.Result.{err_from_is_err_and}
use Rattle.tcl_run.proofs.Endings.{ended_err}
use Rattle.tcl_interp.proofs.subject.path_there.Goals as goal

pub returns-in_err-found : goal.returns-in_err-found
returns-in_err-found c =
    let p = err_from_is_err_and c.from_residual.result c.from_residual.ensures.1 in
    ended_err c.from_residual.result c.in_err-found.field-0.0 p.0 _ _ _ p.1 p.2 c.in_err-found.ensures.read (λ e f. f)

pub returns : goal.returns
returns c = c.in_ok-found.ensures.read
