use Rattle.std.proofs.Common.{◌≡◌, drop}
use Rattle.tcl_language.specs.Definitions.{has_name}
use Rattle.tcl_commands.proofs.definitions.has_name.Given as goal

abbrev pub invariant-parameters : goal.invariant-parameters
invariant-parameters l = has_name l.name l.parameters ≡ has_name l.name (drop l.parameter-index l.parameters)
