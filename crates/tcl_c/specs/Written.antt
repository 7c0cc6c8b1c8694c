-- What is written for C.
use Rattle.std.specs.Ordering.{int_eq}
use Rattle.std.specs.Prelude.{◌≡◌, ℕ, ℤ, pos, List, [], length, find, true, Option, Some, None}
use Rattle.std.specs.Prelude.{Result, Ok, Err}
use Rattle.tcl_core.specs.Paths.{Text}
use Rattle.tcl_sessions.specs.Refusals.{number_of, text_of}
use Rattle.tcl_sessions.specs.Texts.{RefusesText, front}
use Rattle.tcl_sessions.specs.declared.refusal.Refusal.{Refusal}
use Rattle.tcl_text.specs.Writing.{written}

-- what is said of a refusal; nothing of none
abbrev pub said_of : Option Refusal → Text
said_of None = []
said_of (Some e) = text_of e

-- what is said of the refusal of a number; nothing where none of these has it
abbrev pub said : List Refusal → ℤ → Text
said all number = said_of (find (λ r. int_eq (number_of r) number) all)

-- a text is written as one element of a list, as far as there is room; or why not
abbrev pub WritesQuoted : Text → List ℕ → Result ℕ Refusal → List ℕ → Type 0
WritesQuoted text room (Ok n) after = (after ≡ front (written true text) room) ×
    (n ≡ length (written true text))
WritesQuoted text room (Err e) after = RefusesText e text × (after ≡ room)

-- how long what was written is, is written, and 0 answered; or the number of the refusal
abbrev pub WritesLength : Result ℕ Refusal → ℕ → ℤ → ℕ → Type 0
WritesLength (Ok n) before code after = (code ≡ pos 0) × (after ≡ n)
WritesLength (Err e) before code after = (code ≡ number_of e) × (after ≡ before)

-- both
abbrev pub Quotes : Text → List ℕ → ℕ → ℤ → List ℕ → ℕ → Type 0
Quotes text room before code after whole = (r : Result ℕ Refusal) ×
    WritesQuoted text room r after × WritesLength r before code whole
