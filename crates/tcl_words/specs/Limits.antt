-- How long a value may be.
use Rattle.std.specs.Prelude.{ℕ, pos, nat_le, if◌then◌else◌, List, length, Ok, Err}
use Rattle.std.specs.declared.result.Result.{Result}
use Rattle.std.specs.Fmt.{signed_decimal}
use Rattle.tcl_words.specs.Faults.{too_long}

-- a text that a value may have, or 122
abbrev pub limited : List ℕ → Result (List ℕ) (List ℕ)
limited text = if nat_le (length text) 16777216 then Ok text else Err too_long

-- a count as a value, or 122 where no value has so many parts
abbrev pub counted : ℕ → Result (List ℕ) (List ℕ)
counted n = if nat_le n 16777216 then Ok (signed_decimal (pos n)) else Err too_long
