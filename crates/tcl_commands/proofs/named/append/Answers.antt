use Rattle.std.proofs.Common.{◌∷◌, [], refl, arith}
use Rattle.tcl_commands.proofs.Growths.{append_acts}
use Rattle.tcl_commands.proofs.named.append.Goals as goal

pub returns-clause-acts : goal.returns-clause-acts
returns-clause-acts c =
    append_acts c.args.tree.now c.grow_variable.new.tree c.args.place (c.args.name.now ∷ c.args.value ∷ []) c.args.name.now (c.args.value ∷ []) c.grow_variable.result refl (omega arith) c.grow_variable.ensures.acts
