-- How commands end that are functions of their words.
use Rattle.std.specs.Prelude.{◌≡◌, ℕ, List, Result, Ok, Err}
use Rattle.tcl_core.specs.Endings.{Completion, ok}
use Rattle.tcl_core.specs.Endings.Reply.{Completed}
use Rattle.tcl_run.specs.Ends.{IfEnded, failing}
use Rattle.tcl_run.specs.declared.interruption.Interruption.{Interruption}
use Rattle.tcl_words.specs.Outcomes.{Outcome}

-- the completion of an outcome: its text, or the error
abbrev pub completion_given : Outcome → Completion
completion_given (Ok text) = ok text
completion_given (Err message) = failing message

-- a command ends as the outcome of its words says
abbrev pub IsGiven : Outcome → Result (List ℕ) Interruption → Type 0
IsGiven outcome result = IfEnded result (λ r. r ≡ Completed (completion_given outcome))
