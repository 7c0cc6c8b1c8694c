use Rattle.std.proofs.Common.{drop, length}
use Rattle.std.specs.Prelude.{take, ◌-◌}
use Rattle.tcl_commands.proofs.Growths.{lappend_acts}
use Rattle.tcl_commands.proofs.Linking.{one_front}
use Rattle.tcl_commands.proofs.growing.lappend.Goals as goal

pub returns-in-len1-up-clause-acts : goal.returns-in-len1-up-clause-acts
returns-in-len1-up-clause-acts c =
    lappend_acts c.args.tree.now c.grow_named.new.tree c.args.place c.args.args.now c.name-item.result (take (length c.args.args.now - 1) (drop 1 c.args.args.now)) c.grow_named.result
    (one_front c.args.args.now c.name-item.result c.in-len1-up.len_at_least c.name-item.is) c.grow_named.ensures.acts
