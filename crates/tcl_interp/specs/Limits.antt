-- Numbers that limits may be.
use Rattle.std.specs.Prelude.{◌≡◌, ℕ, ℤ, pos, negsuc, Result, MatchResult}
use Rattle.tcl_core.specs.Endings.Reply.{Completed}
use Rattle.tcl_core.specs.Paths.{Text}
use Rattle.tcl_language.specs.Interpreters.{bad_count}
use Rattle.tcl_run.specs.Ends.{Interrupts, failing}
use Rattle.tcl_run.specs.declared.interruption.Interruption.{Interruption}
use Rattle.tcl_text.specs.Messages as messages

-- how many steps an integer is, or that no number of steps may be this
abbrev pub CountGiven : Text → ℤ → Result ℕ Interruption → Type 0
CountGiven word n result = MatchResult result (λ m. n ≡ pos m)
    (λ i. Interrupts i (λ e. (m : ℕ) × (n ≡ negsuc m) × (e ≡ Completed (failing (bad_count word)))))

abbrev pub DepthGiven : ℤ → Result ℕ Interruption → Type 0
DepthGiven n result = MatchResult result (λ m. n ≡ pos m)
    (λ i. Interrupts i (λ e. (m : ℕ) × (n ≡ negsuc m) ×
    (e ≡ Completed (failing messages.bad_depth_limit))))
