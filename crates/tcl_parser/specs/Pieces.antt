-- What the code returns, as what a text reads as.
use Rattle.std.specs.Prelude.{◌≡◌, ℕ, Bool, true, false, List, [], ◌∷◌, Result, Ok, Err}
use Rattle.std.specs.Char.{encode_utf8}
use Rattle.tcl_parser.specs.declared.fault.Fault.{Fault}
use Rattle.tcl_parser.specs.declared.script.Part.{Part}
use Rattle.tcl_parser.specs.declared.script.Part.TheVariants as parts
use Rattle.tcl_parser.specs.declared.skip.Seen.{Seen}
use Rattle.tcl_parser.specs.declared.skip.Seen.TheVariants as seen
use Rattle.tcl_parser.specs.declared.skip.Piece.{Piece}
use Rattle.tcl_parser.specs.declared.skip.Piece.TheVariants as pieces
use Rattle.tcl_parser.specs.Several.{Turn, over, next}
use Rattle.tcl_parser.specs.Reading.{Place}

-- a function returns, seen by a view, what reading gives
abbrev pub Gives : {X Y : Type 0} → (X → Y) → Result X Fault → Result Y Fault → Type 0
Gives view (Ok x) read = read ≡ Ok (view x)
Gives view (Err f) read = read ≡ Err f

-- what follows that which was read
abbrev pub rest_of : {A : Type 0} → Result (A × List ℕ) Fault → Result (List ℕ) Fault
rest_of (Ok (a, rest)) = Ok rest
rest_of (Err f) = Err f

abbrev pub is_some_list : {A : Type 0} → List A → Bool
is_some_list [] = false
is_some_list (a ∷ others) = true

-- whether something was read, and what follows
abbrev pub skimmed : {A : Type 0} → Result (List A × List ℕ) Fault → Result (Bool × List ℕ) Fault
skimmed (Ok (items, rest)) = Ok (is_some_list items, rest)
skimmed (Err f) = Err f

abbrev pub part_of : Seen → Part
part_of (seen.Literal text) = parts.Literal text.now
part_of (seen.Character c) = parts.Literal (encode_utf8 c)
part_of (seen.Variable name) = parts.Variable name.now
part_of (seen.Element name) = parts.Element name.now
part_of seen.EndElement = parts.EndElement
part_of (seen.Script text) = parts.Script text.now

abbrev pub turn_of : Piece → Turn Part Place
turn_of (pieces.Over rest) = over rest.now
turn_of (pieces.Part part indexes rest) = next (part_of part) (indexes, rest.now)
