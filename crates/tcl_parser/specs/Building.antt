-- What the functions that build scripts return, as what a text reads as.
use Rattle.std.specs.Prelude.{◌≡◌, ℕ, List, ◌++◌, Result, Ok, Err}
use Rattle.tcl_parser.specs.declared.fault.Fault.{Fault}
use Rattle.tcl_parser.specs.declared.script.Part.{Part}
use Rattle.tcl_parser.specs.declared.reader.ReadError.{ReadError}
use Rattle.tcl_parser.specs.declared.reader.ReadError.TheVariants as stops
use Rattle.tcl_parser.specs.Reading.{with_literal, with_part}

abbrev pub Stops : {Y : Type 0} → ReadError → Result Y Fault → Type 0
Stops stops.Memory read = Unit {0}
Stops (stops.Fault fault) read = read ≡ Err fault

-- a function returns, seen by a view, what reading gives, unless memory ran out
abbrev pub Yields : {X Y : Type 0} → (X → Y) → Result X ReadError → Result Y Fault → Type 0
Yields view (Ok x) read = read ≡ Ok (view x)
Yields view (Err stop) read = Stops stop read

-- A part was added to parts of which the last is a literal that may still grow: whatever parts come
-- after it, the whole is the same.
abbrev pub Adds : List Part → List ℕ → Part → List Part → List ℕ → Type 0
Adds parts literal part new_parts new_literal =
    (others : List Part) → parts ++ with_literal literal (with_part part others)
    ≡ new_parts ++ with_literal new_literal others
