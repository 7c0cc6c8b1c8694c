-- What splitting and joining do to one another.
use Rattle.std.specs.Prelude.{◌≡◌, ℕ, List, [], ◌∷◌}
use Rattle.tcl_characters.specs.Texts.{text_of}
use Rattle.tcl_lists.specs.Joining.{joined}
use Rattle.tcl_lists.specs.Splitting.{split_at, letter_text}

-- what is split at one character and joined with it is what it was
abbrev pub JoinUndoesSplit : Type 0
JoinUndoesSplit = (c : ℕ) (cs : List ℕ) → joined (letter_text c) (split_at (c ∷ []) cs) ≡ text_of cs

-- what is split into its characters and joined with nothing is what it was
abbrev pub JoinUndoesLetters : Type 0
JoinUndoesLetters = (cs : List ℕ) → joined [] (split_at [] cs) ≡ text_of cs
