use Rattle.std.proofs.Common.{refl}
use Rattle.tcl_language.specs.Interpreters as interpreters
use Rattle.tcl_run.proofs.Endings.{ended_err}
use Rattle.tcl_tree.specs.TreeOf.{marks_of}
use Rattle.std.proofs.lemmas.Result.{err_from_is_err_and}
use Rattle.tcl_text.specs.Numbers.{integer_of}
use Rattle.tcl_text.proofs.Fitting.{handed}
use Rattle.tcl_interp.proofs.Limiting.{integer_fails, depth_found}
use Rattle.tcl_interp.proofs.limits.depth_value.Goals as goal

pub returns-in_err-n : goal.returns-in_err-n
returns-in_err-n c =
    let p = err_from_is_err_and c.from_residual.result c.from_residual.ensures.1 in
    ended_err c.from_residual.result c.in_err-n.field-0.0 p.0 _ _ _ p.1 p.2 c.in_err-n.ensures
    (λ e f rest. integer_fails c.args.tree.now c.args.place (marks_of c.args.tree.now).integers c.args.word.now e (λ z style. interpreters.depth_number z (λ limit. rest limit style)) refl f)

pub returns : goal.returns
returns c = depth_found c.args.tree.now c.args.place (marks_of c.args.tree.now).integers c.args.word.now c.in_ok-n.n _ c.depth_of.result refl c.in_ok-n.ensures
    (handed (integer_of (marks_of c.args.tree.now).integers c.args.word.now) c.in_ok-n.n c.in_ok-n.ensures) c.depth_of.ensures
