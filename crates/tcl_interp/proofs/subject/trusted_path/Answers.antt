use Rattle.std.proofs.lemmas.Result.{err_from_is_err_and}
use Rattle.tcl_language.specs.Interpreters.{at_path, permitted}
use Rattle.tcl_run.proofs.Endings.{ended_err}
use Rattle.tcl_interp.specs.Subjects.{about, path_text}
use Rattle.tcl_interp.proofs.Subjects.{finds_after}
use Rattle.tcl_interp.proofs.subject.trusted_path.Goals as goal

pub returns-in_err-permit : goal.returns-in_err-permit
returns-in_err-permit c =
    let p = err_from_is_err_and c.from_residual.result c.from_residual.ensures.1 in
    ended_err c.from_residual.result c.in_err-permit.field-0.0 p.0 _ _ _ p.1 p.2 c.in_err-permit.ensures (λ e f rest. f (λ style. at_path (path_text (about c.args.subject)) (λ path n. rest path style)))

pub returns : goal.returns
returns c = finds_after c.args.tree.now c.args.place (λ path. path.items) (λ rest style. at_path (path_text (about c.args.subject)) (λ path n. rest path style)) (λ rest style. permitted (at_path (path_text (about c.args.subject)) (λ path n. rest path style))) c.standing_path.result
    (λ rest. c.in_ok-permit.ensures (λ style. at_path (path_text (about c.args.subject)) (λ path n. rest path style))) c.standing_path.ensures
