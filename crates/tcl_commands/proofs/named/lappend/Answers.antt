use Rattle.std.proofs.Common.{◌∷◌, [], refl}
use Rattle.tcl_commands.proofs.Growths.{lappend_acts}
use Rattle.tcl_commands.proofs.named.lappend.Goals as goal

pub returns-clause-acts : goal.returns-clause-acts
returns-clause-acts c =
    lappend_acts c.args.tree.now c.grow_variable.new.tree c.args.place (c.args.name.now ∷ c.args.value ∷ []) c.args.name.now (c.args.value ∷ []) c.grow_variable.result refl c.grow_variable.ensures.acts
