use Rattle.std.proofs.Common.{◌≤◌, drop, length, length-drop, ap, arith}
use Rattle.std.specs.Prelude.{take, ◌-◌}
use Rattle.tcl_text.proofs.Items.{one_item}
use Rattle.tcl_commands.proofs.Growths.{append_acts}
use Rattle.tcl_commands.proofs.Linking.{behind, one_front}
use Rattle.tcl_commands.proofs.Setting.{append_reads}
use Rattle.tcl_commands.proofs.growing.append.Goals as goal

pub returns-in-len1-clause-acts : goal.returns-in-len1-clause-acts
returns-in-len1-clause-acts c =
    append_reads c.args.tree.now c.args.place c.args.args.now c.name-item.result c.read_by_word.result (one_item c.args.args.now c.name-item.result c.in-len1.len_at_least c.in-len1.len_below c.name-item.is) c.read_by_word.ensures.read

pub returns-in-len1-up-clause-acts : goal.returns-in-len1-up-clause-acts
returns-in-len1-up-clause-acts c =
    let more = take (length c.args.args.now - 1) (drop 1 c.args.args.now) in
    let many : 2 ≤ length c.args.args.now = omega arith in
    let some : 1 ≤ length more = omega (arith, ap length (behind 1 c.args.args.now), length-drop 1 c.args.args.now) in
    append_acts c.args.tree.now c.grow_named.new.tree c.args.place c.args.args.now c.name-item-2.result more c.grow_named.result (one_front c.args.args.now c.name-item-2.result (omega arith) c.name-item-2.is) some c.grow_named.ensures.acts
