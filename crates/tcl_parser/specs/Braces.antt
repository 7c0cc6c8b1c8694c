-- Words in braces, piece by piece.
use Rattle.std.specs.Prelude.{ℕ, ◌+◌, ◌<◌, ◌≤◌, false, List, [], ◌∷◌, length, Result, Ok}
use Rattle.tcl_parser.specs.declared.fault.Fault.{Fault}
use Rattle.tcl_parser.specs.declared.scan.BracePiece.{BracePiece}
use Rattle.tcl_parser.specs.declared.scan.BracePiece.TheVariants.{Close, Characters, Line}
use Rattle.tcl_parser.specs.Reading.{put, in_braces}

-- what a word reads as that begins with a piece
abbrev pub read_on : ℕ → BracePiece → Result (List ℕ × List ℕ) Fault
read_on depth (Close rest) = Ok ([], rest.now)
read_on depth (Characters front deeper rest) = put front.now (in_braces false deeper rest.now)
read_on depth (Line rest) = put (32 ∷ []) (in_braces false depth rest.now)

-- a piece leaves less to read
abbrev pub GoesOn : ℕ → List ℕ → BracePiece → Type 0
GoesOn depth s (Close rest) = length rest.now < length s
GoesOn depth s (Characters front deeper rest) = (length rest.now < length s) ×
    (deeper + length rest.now ≤ depth + length s)
GoesOn depth s (Line rest) = length rest.now < length s
