-- What contracts see of a loop that keeps what its body gives.
use Rattle.std.specs.Prelude.{◌≡◌, ◌⊎◌, Bool, true, false, List, [], ◌∷◌, ◌++◌, Result, Ok, Err}
use Rattle.tcl_core.specs.Endings.{Completion, Reply}
use Rattle.tcl_core.specs.Endings.Reply.{Completed}
use Rattle.tcl_core.specs.Paths.{Text}
use Rattle.tcl_core.specs.Programs.Prog.{done}
use Rattle.tcl_language.specs.Control.{after_result}
use Rattle.tcl_language.specs.Instructions.{Program, fits, gives, too_long}
use Rattle.tcl_run.specs.Ends.{Interrupts}
use Rattle.tcl_run.specs.declared.interruption.Interruption.{Interruption}
use Rattle.tcl_text.specs.Writing.{written_list}
use Rattle.tcl_calls.specs.Turns.{EndsIn}
use Rattle.tcl_calls.specs.Words.{EndsBy}

-- a value is added to what is kept, or the list would be too long
abbrev pub Keeps : List Text → List Text → Text → Result Bool Interruption → Type 0
Keeps before after value (Ok on) = (on ≡ true) × (after ≡ before ++ value ∷ []) ×
    (fits (written_list (before ++ value ∷ [])) ≡ true)
Keeps before after value (Err i) = Interrupts i
    (λ e. (fits (written_list (before ++ value ∷ [])) ≡ false) × (e ≡ Completed too_long))

-- behind such a completion of its body the loop goes on with these kept, or is over
abbrev pub GoesWith : Completion → List Text → List Text → Bool → Type 0
GoesWith c before after true = (k : List Text → Program) → after_result c.code c before k ≡ k after
GoesWith c before after false = (k : List Text → Program) → after_result c.code c before k ≡ gives
    (written_list after)

-- the loop ends as its body did
abbrev pub EndsTurn : List Text → Reply → Type 0
EndsTurn before (Completed c) = (k : List Text → Program) → after_result c.code c before k ≡ done c
EndsTurn before _ = Unit {0}

-- it ends so behind such a completion of its body
abbrev pub EndsBehind : List Text → Completion → Reply → Type 0
EndsBehind before c e = (k : List Text → Program) → EndsBy (after_result c.code c before k) e

-- What comes of a body that completed so: the loop goes on, is over, or ends so.
abbrev pub CollectsCompleted : Completion → List Text → List Text → Result Bool Interruption →
    Type 0
CollectsCompleted c before after (Ok on) = GoesWith c before after on
CollectsCompleted c before after (Err i) = Interrupts i (EndsBehind before c)

-- What comes of the body of a turn: the loop goes on, is over, ends as the body did, or ends since
-- what it gave can't be kept.
abbrev pub Collects : Result Text Interruption → List Text → List Text →
    Result Bool Interruption → Type 0
Collects ended before after (Ok on) = (c : Completion) × EndsIn ended c ×
    GoesWith c before after on
Collects ended before after (Err i) = ((ended ≡ Err i) × Interrupts i (EndsTurn before))
    ⊎ ((c : Completion) × EndsIn ended c × Interrupts i (EndsBehind before c))
