-- What adding to a variable comes to.
use Rattle.std.specs.Prelude.{◌≡◌, List, ◌++◌, Result, Ok, Err, MatchResult}
use Rattle.tcl_core.specs.Endings.{Completion, ok}
use Rattle.tcl_core.specs.Endings.Reply.{Completed}
use Rattle.tcl_core.specs.Paths.{Text}
use Rattle.tcl_core.specs.Programs.Prog.{done}
use Rattle.tcl_frames.specs.Chain.{Chain, read, after_set}
use Rattle.tcl_language.specs.Faults.{frame_message}
use Rattle.tcl_language.specs.Instructions.{Program, change, either, fits, too_long, with_chain}
use Rattle.tcl_language.specs.Variables.{joined, or_missing}
use Rattle.tcl_lists.specs.Lists.{lappend_of}
use Rattle.tcl_run.specs.Ends.{Interrupts, failing}
use Rattle.tcl_run.specs.declared.interruption.Interruption.{Interruption}
use Rattle.tcl_tree.specs.Own.{Own}
use Rattle.tcl_frames.specs.declared.fault.FrameFault.{FrameFault}
use Rattle.tcl_words.specs.Outcomes.{Outcome}

-- what a text grows to, or the error that it doesn't
abbrev pub Growth : Type 0
Growth = Result Text Completion

-- the text with others behind it
abbrev pub appended : List Text → Text → Growth
appended more old = either (fits (old ++ joined more)) (Ok (old ++ joined more)) (Err too_long)

abbrev pub growth_of : Outcome → Growth
growth_of (Ok text) = Ok text
growth_of (Err message) = Err (failing message)

-- the list with others behind it
abbrev pub lengthened : List Text → Text → Growth
lengthened more old = growth_of (lappend_of old more)

-- the text that a variable then holds, and the chain; or the error
abbrev pub Grown : Type 0
Grown = Result (Text × Chain) Completion

abbrev pub set_to : Text → Result Chain FrameFault → Grown
set_to new (Ok chain) = Ok (new, chain)
set_to new (Err f) = Err (failing (frame_message f))

abbrev pub set_grown : Chain → Text → Growth → Grown
set_grown chain name (Ok new) = set_to new (after_set chain name new)
set_grown chain name (Err c) = Err c

abbrev pub grown_from : Chain → Text → (Text → Growth) → Result Text FrameFault → Grown
grown_from chain name grow (Ok old) = set_grown chain name (grow old)
grown_from chain name grow (Err f) = Err (failing (frame_message f))

-- a variable grows, from the first text where there is none
abbrev pub grown : Text → Chain → Text → (Text → Growth) → Grown
grown first chain name grow = grown_from chain name grow (or_missing first (read chain.frames name))

-- what a call returned and left of the chain is that, unless memory ran out
abbrev pub Grows : Text → Chain → Text → (Text → Growth) → Chain → Result Text Interruption → Type 0
Grows first old name grow new result =
    MatchResult result (λ text. grown first old name grow ≡ Ok (text, new))
    (λ i. Interrupts i (λ e. (c : Completion) × (new ≡ old) ×
    (grown first old name grow ≡ Err c) × (e ≡ Completed c)))

-- the same of a value
abbrev pub GrowsTo : Text → (Text → Growth) → Text → Result Text Interruption → Type 0
GrowsTo old grow new result = MatchResult result (λ text. (grow old ≡ Ok text) × (new ≡ text))
    (λ i. Interrupts i (λ e. (c : Completion) × (new ≡ old) × (grow old ≡ Err c) ×
    (e ≡ Completed c)))

-- the program that has grown a variable so
abbrev pub finishes : Own → Grown → Program
finishes own (Ok p) = change (with_chain own p.1) (done (ok p.0))
finishes own (Err c) = done c
