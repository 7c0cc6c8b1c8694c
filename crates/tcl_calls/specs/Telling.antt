-- Answers that are told as another text.
use Rattle.std.specs.Prelude.{◌≡◌, ◌⊎◌, true, false, Result, Ok, Err}
use Rattle.tcl_core.specs.Paths.{Text}
use Rattle.tcl_language.specs.Interpreters.{code_is_ok}
use Rattle.tcl_run.specs.declared.interruption.Interruption.{Interruption}
use Rattle.tcl_run.specs.declared.interruption.Interruption.TheVariants as interruption

-- an ordinary result is told as this text, and every other end as it is
abbrev pub TellsAs : Result Text Interruption → Text → Result Text Interruption → Type 0
TellsAs (Ok text) value r = r ≡ Ok value
TellsAs (Err (interruption.Completed c)) value r =
    ((code_is_ok c.value.code ≡ true) × (r ≡ Ok value)) ⊎
    ((code_is_ok c.value.code ≡ false) × (r ≡ Err (interruption.Completed c)))
TellsAs (Err i) value r = r ≡ Err i
