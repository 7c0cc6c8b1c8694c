use Rattle.std.proofs.Common.{◌≡◌, List, drop}
use Rattle.tcl_language.specs.Definitions.{parameters}
use Rattle.tcl_language.specs.Instructions.{Program}
use Rattle.tcl_interpreter.specs.declared.parameter.Parameter.{Parameter}
use Rattle.tcl_commands.specs.Parameters.{parameters_from}
use Rattle.tcl_commands.proofs.definitions.read_parameters.Given as goal

abbrev pub invariant-texts : goal.invariant-texts
invariant-texts l = (k : List Parameter → Program) → parameters_from l.fn.text k ≡ parameters (drop l.index l.texts) l.made.items k
