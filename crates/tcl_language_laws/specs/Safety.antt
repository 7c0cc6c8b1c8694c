-- What the commands keep to in a safe interpreter.
use Rattle.std.specs.Prelude.{Bool}
use Rattle.tcl_core.specs.Paths.{Place}
use Rattle.tcl_core.specs.Tables.{Keeps_to, hostless, unlimiting}
use Rattle.tcl_text.specs.declared.integer.Integers.{Integers}
use Rattle.tcl_language.specs.Safety.{is_modest, is_quiet, plain}
use Rattle.tcl_run.specs.Language.{language}

-- Scripts in a safe interpreter ask the host for nothing where they have no command that does.
abbrev pub KeepsQuiet : Type 0
KeepsQuiet = (style : Integers) → Keeps_to (hostless plain is_quiet) (language style)

-- And they set no limit.
abbrev pub KeepsLimits : Type 0
KeepsLimits = (style : Integers) (limited : Place → Bool) →
    Keeps_to (unlimiting is_modest limited) (language style)
