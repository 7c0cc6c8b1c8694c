use Rattle.std.proofs.Common.{◌≡◌, drop}
use Rattle.tcl_language.specs.Procedures as procedures
use Rattle.tcl_commands.proofs.procedures.default_in.Given as goal

abbrev pub invariant-parameters : goal.invariant-parameters
invariant-parameters l = procedures.default_in l.name l.parameters ≡ procedures.default_in l.name (drop l.parameter-index l.parameters)
