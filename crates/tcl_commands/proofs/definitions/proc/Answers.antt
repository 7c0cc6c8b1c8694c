use Rattle.std.proofs.Common.{refl, Ok, Err}
use Rattle.std.proofs.lemmas.Result.{err_from_is_err_and}
use Rattle.tcl_commands.proofs.Defining.{proc_acts, proc_fails, proc_unnamed}
use Rattle.tcl_commands.proofs.definitions.proc.Goals as goal

pub returns-in_err-_kept-in-len3-clause-acts : goal.returns-in_err-_kept-in-len3-clause-acts
returns-in_err-_kept-in-len3-clause-acts c =
    let p = err_from_is_err_and c.from_residual.result c.from_residual.ensures.1 in
    proc_unnamed c.args.tree.now c.args.place c.args.args.now c.name-item.result c.parameters-item.result c.body-item.result c.in-len3.len_at_least c.in-len3.len_below c.name-item.is c.parameters-item.is c.body-item.is
    c.in_err-_kept-in-len3.field-0.0 p.0 (Err c.in_err-_kept-in-len3.field-0.0) c.from_residual.result refl c.in_err-_kept-in-len3.ensures p.1 p.2

pub returns-in_err-parameters-in-len3-clause-acts : goal.returns-in_err-parameters-in-len3-clause-acts
returns-in_err-parameters-in-len3-clause-acts c =
    let p = err_from_is_err_and c.from_residual-in_err-parameters-in-len3.result c.from_residual-in_err-parameters-in-len3.ensures.1 in
    proc_fails c.args.tree.now c.args.place c.args.args.now c.name-item.result c.parameters-item.result c.body-item.result c.in-len3.len_at_least c.in-len3.len_below c.name-item.is c.parameters-item.is c.body-item.is
    c.in_err-parameters-in-len3.field-0.0 p.0 (Ok c.in_ok-_kept-in-len3._kept) c.in_ok-_kept-in-len3._kept c.from_residual-in_err-parameters-in-len3.result refl c.in_ok-_kept-in-len3.ensures p.1 p.2 c.in_err-parameters-in-len3.ensures.refused

pub returns-in_ok-procedure-in-len3-clause-acts : goal.returns-in_ok-procedure-in-len3-clause-acts
returns-in_ok-procedure-in-len3-clause-acts c =
    proc_acts c.args.tree.now c.args.place c.args.args.now c.name-item.result c.parameters-item.result c.body-item.result c.in-len3.len_at_least c.in-len3.len_below c.name-item.is c.parameters-item.is c.body-item.is
    c.define.new.tree (Ok c.in_ok-_kept-in-len3._kept) c.in_ok-_kept-in-len3._kept c.in_ok-parameters-in-len3.parameters.items c.in_ok-procedure-in-len3.procedure c.in_ok-read_body-in-len3.field-0 c.define.result refl c.in_ok-_kept-in-len3.ensures c.in_ok-parameters-in-len3.ensures.made c.in_ok-read_body-in-len3.ensures
    c.in_ok-procedure-in-len3.ensures c.define.ensures.acts
