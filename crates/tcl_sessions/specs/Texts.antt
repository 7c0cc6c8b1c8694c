-- Texts as bytes.
use Rattle.std.specs.Prelude.{◌≡◌, ℕ, ◌+◌, ◌⊎◌, ◌∷◌, ◌++◌, [], List, length, min, take, drop, false}
use Rattle.std.specs.Str.{IsUtf8}
use Rattle.tcl_core.specs.Paths.{Text}
use Rattle.tcl_language.specs.Instructions.{fits}
use Rattle.tcl_sessions.specs.Refusals.{of_fault}
use Rattle.tcl_sessions.specs.declared.refusal.Refusal.{Refusal}
use Rattle.tcl_sessions.specs.declared.refusal.Refusal.TheVariants.{Memory, NotUtf8, TooLong}
use Rattle.tcl_text.specs.Lists.{HasFault}
use Rattle.tcl_text.specs.declared.list.ListFault.{ListFault}

-- why bytes aren't read as a text
abbrev pub RefusesText : Refusal → List ℕ → Type 0
RefusesText e bytes = ((e ≡ TooLong) × (fits bytes ≡ false)) ⊎ ((e ≡ NotUtf8) × ¬ (IsUtf8 bytes)) ⊎
    (e ≡ Memory)

-- or as a list
abbrev pub RefusesList : Refusal → List ℕ → Type 0
RefusesList e bytes = RefusesText e bytes ⊎
    ((f : ListFault) × (e ≡ of_fault f) × HasFault bytes f)

-- The room with a text in it and a 0 behind that: of a text that is longer, as much as leaves room
-- for the 0.
abbrev pub front : List ℕ → List ℕ → List ℕ
front text [] = []
front text (x ∷ room) = take (length room) text ++ 0 ∷ drop (length text) room
