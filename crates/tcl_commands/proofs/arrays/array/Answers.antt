use Rattle.std.proofs.Common.{◌∷◌, drop, length}
use Rattle.std.specs.Prelude.{take, ◌-◌}
use Rattle.tcl_language.specs.Arrays as arrays
use Rattle.tcl_commands.proofs.ArrayEnds.{by_words}
use Rattle.tcl_commands.proofs.Linking.{one_front}
use Rattle.tcl_commands.proofs.arrays.array.Goals as goal

pub returns-in-len1-up-clause-acts : goal.returns-in-len1-up-clause-acts
returns-in-len1-up-clause-acts c =
    let rest = take (length c.args.args.now - 1) (drop 1 c.args.args.now) in
    by_words c.args.tree.now c.subcommand.new.tree c.args.place arrays.array c.args.args.now (c.word-item.result ∷ rest) c.subcommand.result
    (one_front c.args.args.now c.word-item.result c.in-len1-up.len_at_least c.word-item.is) c.subcommand.ensures.acts
