use Rattle.std.proofs.Common.{◌∙◌}
use Rattle.std.specs.Option.{option_copied}
use Rattle.tcl_commands.proofs.ArrayEnds.{names_acts}
use Rattle.tcl_commands.proofs.procedures.listed.Goals as goal

pub returns : goal.returns
returns c =
    names_acts c.args.tree.now c.args.place c.args.only_procedures (option_copied c.args.pattern) c.commands_seen-commands.result.now.entries c.as_slice.result.now c.list_value.result c.commands_seen-commands.ensures
    (c.as_slice.ensures.value ∙ c.in_ok-names.ensures) c.list_value.ensures
