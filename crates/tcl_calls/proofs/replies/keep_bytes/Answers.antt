use Rattle.std.proofs.Common.{ap, sym, ◌∙◌}
use Rattle.std.proofs.lemmas.Result.{err_from_is_err_and}
use Rattle.tcl_core.specs.Endings.{ok}
use Rattle.tcl_core.specs.Paths.{Text}
use Rattle.tcl_core.specs.Programs.Prog.{done}
use Rattle.tcl_language.specs.Hosting.{keeps_line, read_from}
use Rattle.tcl_language.specs.Variables.{sets}
use Rattle.tcl_run.proofs.Endings.{ended_err}
use Rattle.tcl_tree.specs.TreeOf.{tree_of}
use Rattle.tcl_calls.proofs.Hosted.{acts_as}
use Rattle.tcl_calls.proofs.replies.keep_bytes.Goals as goal

pub returns-in_err-line-clause-acts : goal.returns-in_err-line-clause-acts
returns-in_err-line-clause-acts c =
    let p = err_from_is_err_and c.from_residual.result c.from_residual.ensures.1 in
    ended_err c.from_residual.result c.in_err-line.field-0.0 p.0 _ _ _ p.1 p.2 c.in_err-line.ensures (λ e h q style there. h (keeps_line c.args.name.now) (tree_of c.args.tree.now) q)

pub returns-clause-acts : goal.returns-clause-acts
returns-clause-acts c =
    acts_as c.args.tree.now c.keep.new.tree c.args.place (read_from c.args.channel.now c.args.bytes (keeps_line c.args.name.now)) (sets c.args.name.now c.in_ok-line.line (done (ok c.in_ok-count.count))) c.keep.result
    (c.in_ok-line.ensures (keeps_line c.args.name.now) ∙ ap (λ (n : Text). sets c.args.name.now c.in_ok-line.line (done (ok n))) (sym c.in_ok-count.ensures)) c.keep.ensures.acts
