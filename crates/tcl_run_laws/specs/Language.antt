-- What can go on in the language that sets no limit of steps.
use Rattle.std.specs.Prelude.{Bool, true, not}
use Rattle.tcl_text.specs.declared.integer.Integers.{Integers}
use Rattle.tcl_language.specs.Instructions.{Instr}
use Rattle.tcl_language.specs.Instructions.Instr.{Serve}
use Rattle.tcl_run.specs.Language.{language}
use Rattle.tcl_run_laws.specs.Limits.{KeepTops, sets_steps}

abbrev pub leaves_steps : Instr → Bool
leaves_steps (Serve entry) = not (sets_steps entry)
leaves_steps _ = true

-- In every style, an interpreter's limit of steps is set by the entry for it alone, and only one
-- below is asked for that.
abbrev pub LanguageKeepsTops : Type 0
LanguageKeepsTops = (style : Integers) → KeepTops leaves_steps (language style)
