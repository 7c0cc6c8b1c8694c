use Rattle.std.specs.Prelude.{codes}
use Rattle.std.proofs.lemmas.Result.{err_from_is_err_and}
use Rattle.tcl_language.specs.Instructions.{either}
use Rattle.tcl_commands.proofs.ArrayEnds.{set_refused, set_told}
use Rattle.tcl_commands.proofs.procedures.set_default.Goals as goal

pub returns-in_err-set_variable-clause-acts : goal.returns-in_err-set_variable-clause-acts
returns-in_err-set_variable-clause-acts c =
    let r = c.from_residual in
    let p = err_from_is_err_and r.result r.ensures.1 in
    set_refused c.args.tree.now c.set_variable.new.tree c.args.place c.args.variable.now c.args.value (either c.args.is_there (codes "1") (codes "0")) c.in_err-set_variable.field-0.0 p.0 r.result p.1 p.2 c.in_err-set_variable.ensures.set

pub returns-clause-acts : goal.returns-clause-acts
returns-clause-acts c =
    set_told c.args.tree.now c.set_variable.new.tree c.args.place c.args.variable.now c.args.value c.truth_value.result (either c.args.is_there (codes "1") (codes "0")) c.truth_value.ensures c.in_ok-set_variable.ensures.set
