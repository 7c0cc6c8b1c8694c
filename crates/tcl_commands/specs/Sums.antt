-- What adding to the integer of a text comes to.
use Rattle.std.specs.Prelude.{◌≡◌, ℤ, pos, List, [], ◌∷◌, Result, Ok, Err, MatchResult, ◌+ℤ◌}
use Rattle.std.specs.Prelude.{Option, Some, None}
use Rattle.std.specs.Fmt.{signed_decimal}
use Rattle.tcl_core.specs.Endings.{Completion}
use Rattle.tcl_core.specs.Endings.Reply.{Completed}
use Rattle.tcl_core.specs.Paths.{Text}
use Rattle.tcl_language.specs.Faults.{integer_message}
use Rattle.tcl_language.specs.Instructions.{either}
use Rattle.tcl_language.specs.Variables.{overflow}
use Rattle.tcl_run.specs.Ends.{Interrupts, failing}
use Rattle.tcl_run.specs.declared.interruption.Interruption.{Interruption}
use Rattle.tcl_text.specs.declared.integer.IntegerFault.{IntegerFault}
use Rattle.tcl_text.specs.declared.integer.Integers.{Integers}
use Rattle.tcl_text.specs.Numbers.{fits_64, in_64_bits, integer_of}
use Rattle.tcl_commands.specs.Growing.{Growth}

-- an integer, or the error that there is none
abbrev pub Number : Type 0
Number = Result ℤ Completion

abbrev pub number_or : (IntegerFault → Text) → Result ℤ IntegerFault → Number
number_or message (Ok n) = Ok n
number_or message (Err f) = Err (failing (message f))

-- the integer of a text
abbrev pub number_of : Integers → Text → Number
number_of style text = number_or (integer_message text) (in_64_bits (integer_of style text))

-- what is added: 1, or the integer of a word
abbrev pub increment : Integers → List Text → Number
increment style [] = Ok (pos 1)
increment style (word ∷ words) = number_of style word

-- the words of a number that is added, or of 1, which needs none
abbrev pub added_words : Option ℤ → List Text
added_words None = []
added_words (Some n) = signed_decimal n ∷ []

-- the text of a sum, where it fits 64 bits
abbrev pub sum_text : ℤ → Growth
sum_text sum = either (fits_64 sum) (Ok (signed_decimal sum)) (Err (failing overflow))

abbrev pub added : Number → Number → Growth
added (Ok n) (Ok m) = sum_text (n +ℤ m)
added (Ok n) (Err c) = Err c
added (Err c) by = Err c

-- the integer of a text with something added to it
abbrev pub raised : Integers → List Text → Text → Growth
raised style more old = added (number_of style old) (increment style more)

-- what a call read of an integer, unless memory ran out
abbrev pub Reads : Number → Result ℤ Interruption → Type 0
Reads number result = MatchResult result (λ n. number ≡ Ok n)
    (λ i. Interrupts i (λ e. (c : Completion) × (number ≡ Err c) × (e ≡ Completed c)))
