-- How the parameters of a procedure are read.
use Rattle.std.specs.Prelude.{List, []}
use Rattle.tcl_core.specs.Paths.{Text}
use Rattle.tcl_language.specs.Definitions.{parameter, parameters}
use Rattle.tcl_language.specs.Instructions.{Program, or_fails}
use Rattle.tcl_text.specs.Lists.{list_of}
use Rattle.tcl_text.specs.Writing.{fault_message}
use Rattle.tcl_interpreter.specs.declared.parameter.Parameter.{Parameter}

-- on with those before it and the parameter that a text is
abbrev pub reads_parameter : Text → List Parameter → (List Parameter → Program) → Program
reads_parameter text before k = or_fails fault_message (list_of text)
    (λ words. parameter text words before k)

-- on with those that the elements of a list are
abbrev pub parameters_from : Text → (List Parameter → Program) → Program
parameters_from text k = or_fails fault_message (list_of text) (λ texts. parameters texts [] k)
