-- What contracts see of a completion.
use Rattle.std.specs.Prelude.{ℕ, List, Option, Some, None}
use Rattle.tcl_core.specs.Endings as core
use Rattle.tcl_core.specs.Endings.{NONE}
use Rattle.tcl_flow.specs.declared.completion.Options.{Options}
use Rattle.tcl_flow.specs.declared.completion.Completion.{Completion}

-- an error of no kind is told as NONE
abbrev pub errorcode_of : Option (List ℕ) → List ℕ
errorcode_of (Some text) = text
errorcode_of None = NONE

abbrev pub options_of : Options → core.Options
options_of o = record { code = o.code; level = o.level; errorcode = errorcode_of o.errorcode }

abbrev pub completion_of : Completion → core.Completion
completion_of c = record { code = c.code; text = c.text; options = options_of c.options }
