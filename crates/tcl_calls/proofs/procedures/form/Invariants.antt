use Rattle.std.proofs.Common.{◌≡◌, ◌++◌, drop}
use Rattle.std.specs.String.{string_bytes}
use Rattle.tcl_language.specs.Control.{parameters_form, proc_form}
use Rattle.tcl_calls.proofs.procedures.form.Given as goal

abbrev pub invariant-parameters : goal.invariant-parameters
invariant-parameters l = string_bytes l.form ++ parameters_form (drop l.index l.parameters) ≡ proc_form l.word l.parameters
