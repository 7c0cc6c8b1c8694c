-- What contracts see of how an evaluation ends.
use Rattle.std.specs.Prelude.{◌≡◌, ℕ, zero, suc, pos, List, Some, None, Result, Ok, Err, IsOkAnd}
use Rattle.std.specs.Prelude.{MatchResult}
use Rattle.tcl_core.specs.Endings as core
use Rattle.tcl_core.specs.Endings.{Completion, Reply, ok, error}
use Rattle.tcl_core.specs.Endings.Reply.{Completed, Stop, Exit, Cut}
use Rattle.tcl_core.specs.Runs.{Ending}
use Rattle.tcl_flow.specs.View.{completion_of}
use Rattle.tcl_flow.specs.declared.completion.Completion.{Completion as CodeCompletion}
use Rattle.tcl_flow.specs.Stopping as stopping
use Rattle.tcl_language.specs.Instructions.{Program, either, fits, too_long, on_ok}
use Rattle.tcl_core.specs.Programs.Prog.{done}
use Rattle.tcl_language.specs.Faults.{frame_message}
use Rattle.tcl_frames.specs.declared.fault.FrameError.{FrameError}
use Rattle.tcl_frames.specs.declared.fault.FrameError.TheVariants as frame_error
use Rattle.tcl_text.specs.Writing.{fault_message}
use Rattle.tcl_text.specs.declared.list.ListError.{ListError}
use Rattle.tcl_text.specs.declared.list.ListError.TheVariants as list_error
use Rattle.tcl_words.specs.declared.refusal.Refusal.{Refusal}
use Rattle.tcl_words.specs.declared.refusal.Refusal.TheVariants as refusal
use Rattle.tcl_run.specs.declared.interruption.Cause.{Cause}
use Rattle.tcl_run.specs.declared.interruption.Cause.TheVariants as cause
use Rattle.tcl_run.specs.declared.interruption.Interruption.{Interruption}
use Rattle.tcl_run.specs.declared.interruption.Interruption.TheVariants as interruption

abbrev pub cause_of : Cause → core.Cause
cause_of cause.Above = core.Above
cause_of cause.Over = core.Over

-- what is said of the end at an interruption: nothing at want of memory, which no end tells of
abbrev pub Interrupts : Interruption → (Reply → Type 0) → Type 0
Interrupts interruption.Memory P = Unit {0}
Interrupts (interruption.Completed c) P = P (Completed (completion_of c.value))
Interrupts (interruption.Stopped s) P = P (stopping.reply_of s)
Interrupts (interruption.Exited n) P = P (Exit n)
Interrupts (interruption.Cut c) P = P (Cut (cause_of c))

-- what is said of the end of an evaluation
abbrev pub IfEnded : Result (List ℕ) Interruption → (Reply → Type 0) → Type 0
IfEnded r P = MatchResult r (λ text. P (Completed (ok text))) (λ i. Interrupts i P)

-- what is said of how far an evaluation came, at an interruption: it ended so, or it was given up
-- where memory was wanted
abbrev pub Breaks : Interruption → (Ending → Type 0) → Type 0
Breaks interruption.Memory P = P None
Breaks (interruption.Completed c) P = P (Some (Completed (completion_of c.value)))
Breaks (interruption.Stopped s) P = P (Some (stopping.reply_of s))
Breaks (interruption.Exited n) P = P (Some (Exit n))
Breaks (interruption.Cut c) P = P (Some (Cut (cause_of c)))

-- what is said of how far an evaluation came
abbrev pub IfRan : Result (List ℕ) Interruption → (Ending → Type 0) → Type 0
IfRan r P = MatchResult r (λ text. P (Some (Completed (ok text)))) (λ i. Breaks i P)

-- what is said where an evaluation is ended by a completion
abbrev pub Completes : Interruption → Type 0 → Type 0
Completes (interruption.Completed c) P = P
Completes i P = Unit {0}

-- What is said where an evaluation came to a completion, an ordinary one or another. Whoever is
-- gone is told none, so where there is one its interpreter stands.
abbrev pub OnCompletion : {A : Type 0} → Result A Interruption → Type 0 → Type 0
OnCompletion r P = MatchResult r (λ a. P) (λ i. Completes i P)

-- no memory was wanted, and this holds of the end
abbrev pub Says : Interruption → (Reply → Type 0) → Type 0
Says interruption.Memory P = ⊥
Says i P = Interrupts i P

-- memory was wanted, and this holds
abbrev pub WhereMemory : {A : Type 0} → Result A Interruption → Type 0 → Type 0
WhereMemory (Err interruption.Memory) P = P
WhereMemory r P = Unit {0}

-- the error of this message, or that the message is too long
abbrev pub failing : List ℕ → Completion
failing text = either (fits text) (error text) too_long

-- the end where a reading gave no value
abbrev pub IsFailure : {A F : Type 0} → (F → List ℕ) → Result A F → Reply → Type 0
IsFailure message (Ok a) e = ⊥
IsFailure message (Err f) e = e ≡ Completed (failing (message f))

-- what a reading gave: its value, or the error that says why it gave none
abbrev pub Gave : {A F : Type 0} → (F → List ℕ) → Result A F → Result A Interruption → Type 0
Gave message read given = MatchResult given (λ a. read ≡ Ok a)
    (λ i. Interrupts i (IsFailure message read))

-- how a refused call on the variables ends
abbrev pub Tells : FrameError → Interruption → Type 0
Tells frame_error.Memory i = i ≡ interruption.Memory
Tells (frame_error.Fault f) i = Interrupts i (λ e. e ≡ Completed (failing (frame_message f)))

-- how a text that is no list ends what wanted one
abbrev pub ListTells : ListError → Interruption → Type 0
ListTells list_error.Memory i = i ≡ interruption.Memory
ListTells (list_error.Fault f) i = Interrupts i (λ e. e ≡ Completed (failing (fault_message f)))

-- how a command's refusal of its words ends what called it
abbrev pub WordsTell : Refusal → Interruption → Type 0
WordsTell refusal.Memory i = i ≡ interruption.Memory
WordsTell (refusal.Fault text) i = Interrupts i (λ e. e ≡ Completed (failing text))

-- a message is told as it is
abbrev pub itself : List ℕ → List ℕ
itself message = message

-- what went on with an ordinary text goes no further
abbrev pub Stays : Ending → Type 0
Stays (Some (Completed c)) = (k : List ℕ → Program) → on_ok k c ≡ done c
Stays _ = Unit {0}

-- what becomes of an evaluation that the depth limit of the interpreter so many levels up refuses
abbrev pub too_deep_at : ℕ → Reply
too_deep_at zero = Completed (core.refusal (core.Full core.Depth))
too_deep_at (suc n) = Stop (suc n) (core.Full core.Depth)

-- the end is an ordinary completion with this text
abbrev pub IsText : Result (List ℕ) Interruption → List ℕ → Type 0
IsText (Ok t) text = t ≡ text
IsText (Err (interruption.Completed c)) text = (c.value.code ≡ pos 0) × (c.value.text ≡ text)
IsText (Err i) text = ⊥

-- the completion that an evaluation ended in, or what it can't be told of
abbrev pub Catches : Result (List ℕ) Interruption → Result CodeCompletion Interruption → Type 0
Catches (Ok text) r = IsOkAnd r (λ c. completion_of c ≡ ok text)
Catches (Err (interruption.Completed c)) r = r ≡ Ok c.value
Catches (Err i) r = r ≡ Err i
