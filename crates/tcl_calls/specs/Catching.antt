-- What contracts see of catching.
use Rattle.std.specs.Prelude.{List}
use Rattle.tcl_core.specs.Endings as core
use Rattle.tcl_core.specs.Paths.{Text}
use Rattle.tcl_language.specs.Instructions.{Program}
use Rattle.tcl_language.specs.Trying.{keeps}

-- what was caught is kept in the variables of these names, and on
abbrev pub kept_in : List Text → core.Completion → Program → Program
kept_in names c k = keeps names c k
