use Rattle.std.proofs.Common.{◌≡◌, ◌++◌, drop}
use Rattle.tcl_language.specs.Procedures as procedures
use Rattle.tcl_commands.proofs.procedures.parameter_names.Given as goal

abbrev pub invariant-parameters : goal.invariant-parameters
invariant-parameters l = procedures.parameter_names l.parameters ≡ l.names.items ++ procedures.parameter_names (drop l.parameter-index l.parameters)
