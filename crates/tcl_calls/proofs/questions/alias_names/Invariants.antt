use Rattle.std.proofs.Common.{◌≡◌, ◌++◌, drop}
use Rattle.tcl_language.specs.Interpreters.{aliases_in}
use Rattle.tcl_calls.proofs.questions.alias_names.Given as goal

abbrev pub invariant-commands : goal.invariant-commands
invariant-commands l = l.names.items ++ aliases_in (drop l.index l.commands.entries) ≡ aliases_in l.commands.entries
