-- What the first word of `invokehidden` is read as.
use Rattle.std.specs.Prelude.{◌≡◌, Bool, true, false, Result, MatchResult}
use Rattle.tcl_core.specs.Endings.Reply.{Completed}
use Rattle.tcl_core.specs.Paths.{Text}
use Rattle.tcl_language.specs.Interpreters.{is_option, is_global, bad_option}
use Rattle.tcl_run.specs.Ends.{Interrupts, failing}
use Rattle.tcl_run.specs.declared.interruption.Interruption.{Interruption}

-- What a first word was read as: the option `-global`, or no option; every other option is an
-- error.
abbrev pub ReadsOption : Text → Result Bool Interruption → Type 0
ReadsOption word result = MatchResult result
    (λ global. (is_option word ≡ global) × (global ≡ true → is_global word ≡ true))
    (λ i. Interrupts i (λ e. (is_option word ≡ true) × (is_global word ≡ false) ×
    (e ≡ Completed (failing (bad_option word)))))
