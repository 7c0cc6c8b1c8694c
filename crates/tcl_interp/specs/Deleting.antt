-- What the end of asking to delete an interpreter comes to.
use Rattle.std.specs.Prelude.{◌≡◌, ◌⊎◌, true, false, Result, Ok, Err}
use Rattle.tcl_core.specs.Paths.{Text}
use Rattle.tcl_language.specs.Interpreters.{code_is_ok}
use Rattle.tcl_run.specs.declared.interruption.Interruption.{Interruption}
use Rattle.tcl_run.specs.declared.interruption.Interruption.TheVariants as interruption

-- An ordinary result is nothing, and every other end passes as it is.
abbrev pub Deletes : Result Text Interruption → Result (Unit {0}) Interruption → Type 0
Deletes (Ok value) r = r ≡ Ok tt
Deletes (Err (interruption.Completed c)) r = ((code_is_ok c.value.code ≡ true) × (r ≡ Ok tt)) ⊎
    ((code_is_ok c.value.code ≡ false) × (r ≡ Err (interruption.Completed c)))
Deletes (Err i) r = r ≡ Err i
