-- What contracts see of words that are put together.
use Rattle.std.specs.Prelude.{◌≡◌, ◌⊎◌, ◌≤◌, length, ℕ, Bool, true, false, List, [], ◌∷◌, ◌++◌}
use Rattle.std.specs.Prelude.{reverse, map, Result, Ok, Err}
use Rattle.std.specs.String.{string_bytes}
use Rattle.tcl_core.specs.Trees.{Node}
use Rattle.tcl_core.specs.Endings.{Reply, ok}
use Rattle.tcl_core.specs.Endings.Reply.{Completed}
use Rattle.tcl_core.specs.Programs.Prog.{done}
use Rattle.tcl_frames.specs.Chain.{read}
use Rattle.tcl_language.specs.Faults.{frame_message}
use Rattle.tcl_language.specs.Instructions.{Program, Open, fits, too_long}
use Rattle.tcl_language.specs.Scripts.{element_text}
use Rattle.tcl_run.specs.Ends.{IsFailure}
use Rattle.tcl_text.specs.Lists.{list_of}
use Rattle.tcl_text.specs.declared.list.ListFault.{ListFault}
use Rattle.tcl_tree.specs.Own.{Own}
use Rattle.tcl_calls.specs.declared.words.OpenElement.{OpenElement}

-- the elements that are open, the innermost first
abbrev pub open_of : OpenElement → Open
open_of e = record { name = e.name; before = string_bytes e.before }

abbrev pub opens : List OpenElement → List Open
opens es = reverse (map open_of es)

-- the program is over, and ends so
abbrev pub EndsBy : Program → Reply → Type 0
EndsBy (done c) r = r ≡ Completed c
EndsBy x r = ⊥

-- the words that the text of a word stands for
abbrev pub words_of : Bool → List ℕ → Result (List (List ℕ)) ListFault
words_of true text = list_of text
words_of false text = Ok (text ∷ [])

-- they are added to those before
abbrev pub Adds : Result (List (List ℕ)) ListFault → List (List ℕ) → List (List ℕ) → Type 0
Adds (Ok more) before after = after ≡ before ++ more
Adds (Err f) before after = ⊥

-- a text within the limit
abbrev pub IsShort : List ℕ → Type 0
IsShort text = length text ≤ 16777216

-- what stands where a reading gave a value
abbrev pub AtOk : {A F : Type 0} → Result A F → (A → Type 0) → Type 0
AtOk (Ok a) P = P a
AtOk (Err f) P = ⊥

-- The innermost element is closed: the word goes on with the value added to the text before it.
abbrev pub Closes : Node Own → List Open → List ℕ → List Open → List ℕ → Type 0
Closes n [] key next all = ⊥
Closes n (x ∷ xs) key next all = (next ≡ xs) ×
    AtOk (read n.own.chain.frames (element_text x.name key))
    (λ v. (fits (x.before ++ v) ≡ true) × (all ≡ x.before ++ v))

-- It can't be closed, or what it comes to is too long.
abbrev pub ClosesBy : Node Own → List Open → List ℕ → Reply → Type 0
ClosesBy n [] key e = e ≡ Completed (ok key)
ClosesBy n (x ∷ xs) key e = IsFailure frame_message
    (read n.own.chain.frames (element_text x.name key)) e
    ⊎ AtOk (read n.own.chain.frames (element_text x.name key))
    (λ v. (fits (x.before ++ v) ≡ false) × (e ≡ Completed too_long))
