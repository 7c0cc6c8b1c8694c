use Rattle.std.proofs.lemmas.Result.{err_from_is_err_and}
use Rattle.tcl_text.proofs.Items.{one_item}
use Rattle.tcl_commands.proofs.Statuses.{exit_fails}
use Rattle.tcl_commands.proofs.exits.exit.Goals as goal

pub returns-in_err-status-in-len1-clause-acts : goal.returns-in_err-status-in-len1-clause-acts
returns-in_err-status-in-len1-clause-acts c =
    let p = err_from_is_err_and c.from_residual.result c.from_residual.ensures.1 in
    exit_fails c.args.tree.now c.args.place c.args.args.now c.status-item.result c.in_err-status-in-len1.field-0.0 p.0 c.from_residual.result
    (one_item c.args.args.now c.status-item.result c.in-len1.len_at_least c.in-len1.len_below c.status-item.is) p.1 p.2 c.in_err-status-in-len1.ensures
