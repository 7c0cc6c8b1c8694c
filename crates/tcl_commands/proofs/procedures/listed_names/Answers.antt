use Rattle.std.proofs.Common.{◌∙◌, sym, arith}
use Rattle.std.specs.Option.{option_copied}
use Rattle.tcl_commands.proofs.ArrayEnds.{names_end}
use Rattle.tcl_commands.proofs.procedures.listed_names.Goals as goal

pub returns : goal.returns
returns c = sym (names_end c.args.only_procedures (option_copied c.args.pattern) c.args.commands.now.entries c.commands.index c.commands.names.items (omega (arith, c.len-index-end.ensures.len, c.commands-test.false))) ∙ c.commands.invariant
