use Rattle.tcl_text.proofs.Items.{no_item}
use Rattle.tcl_commands.proofs.Telling.{cmdcount_ends}
use Rattle.tcl_commands.proofs.inspection.cmdcount.Goals as goal

pub returns-in_ok-number_value-in-empty : goal.returns-in_ok-number_value-in-empty
returns-in_ok-number_value-in-empty c =
    cmdcount_ends c.args.tree.now c.args.place c.args.args.now c.in_ok-number_value-in-empty.field-0 c.steps_counted.result (no_item c.args.args.now c.in-empty.len_below)
    c.in_ok-number_value-in-empty.ensures c.steps_counted.ensures
