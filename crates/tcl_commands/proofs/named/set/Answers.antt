use Rattle.std.proofs.Common.{◌∷◌, [], refl}
use Rattle.std.proofs.lemmas.Result.{err_from_is_err_and}
use Rattle.tcl_commands.proofs.Setting.{set_passes, set_sets}
use Rattle.tcl_commands.proofs.named.set.Goals as goal

pub returns-in_err-set_variable_near-clause-acts : goal.returns-in_err-set_variable_near-clause-acts
returns-in_err-set_variable_near-clause-acts c =
    let p = err_from_is_err_and c.from_residual-in_err-set_variable_near.result c.from_residual-in_err-set_variable_near.ensures.1 in
    set_passes c.args.tree.now c.set_variable_near.new.tree c.args.place (c.args.name.now ∷ c.args.value ∷ []) c.args.name.now c.args.value c.in_err-set_variable_near.field-0.0 p.0
    c.from_residual-in_err-set_variable_near.result refl p.1 p.2 c.in_err-set_variable_near.ensures.set

pub returns-clause-acts : goal.returns-clause-acts
returns-clause-acts c =
    set_sets c.args.tree.now c.set_variable_near.new.tree c.args.place (c.args.name.now ∷ c.args.value ∷ []) c.args.name.now c.args.value c.in_ok-given.given refl c.in_ok-given.ensures.cases c.in_ok-set_variable_near.ensures.set
