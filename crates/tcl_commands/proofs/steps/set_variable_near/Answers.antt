use Rattle.tcl_commands.proofs.Going.{set_steps}
use Rattle.tcl_commands.proofs.steps.set_variable_near.Goals as goal

pub returns-clause-set : goal.returns-clause-set
returns-clause-set c =
    let done = c.write_named.ensures in
    set_steps c.args.tree.now c.write_named.new.tree c.args.place c.args.name.now c.args.value c.write_named.result done.level done.written done.refused done.unchanged
