use Rattle.std.proofs.Common.{drop, length}
use Rattle.std.specs.Prelude.{take, ◌-◌}
use Rattle.tcl_commands.proofs.Linking.{one_front}
use Rattle.tcl_commands.proofs.Telling.{info_acts}
use Rattle.tcl_commands.proofs.inspection.info.Goals as goal

pub returns-in-len1-up-clause-acts : goal.returns-in-len1-up-clause-acts
returns-in-len1-up-clause-acts c =
    info_acts c.args.tree.now c.args.place c.subcommand.new.tree c.args.args.now c.word-item.result (take (length c.args.args.now - 1) (drop 1 c.args.args.now)) c.subcommand.result
    (one_front c.args.args.now c.word-item.result c.in-len1-up.len_at_least c.word-item.is) c.subcommand.ensures.acts
