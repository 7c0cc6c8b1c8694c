use Rattle.std.proofs.Common.{◌≡◌, ◌++◌, drop}
use Rattle.std.specs.Option.{option_copied}
use Rattle.tcl_language.specs.Procedures as procedures
use Rattle.tcl_commands.proofs.procedures.listed_names.Given as goal

abbrev pub invariant-commands : goal.invariant-commands
invariant-commands l = l.names.items ++ procedures.listed_names l.only_procedures (option_copied l.pattern) (drop l.index l.commands.entries) ≡ procedures.listed_names l.only_procedures (option_copied l.pattern) l.commands.entries
