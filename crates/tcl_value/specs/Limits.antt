-- What a value may be.
use Rattle.std.specs.Prelude.{ℕ, ◌≤◌, ◌<◌, List, length}

-- a text, as its bytes in UTF-8
abbrev pub Bytes : Type 0
Bytes = List ℕ

-- a text that a value may have
abbrev pub IsWithin : List ℕ → Type 0
IsWithin bytes = length bytes ≤ 16777216

-- a text that is too long for a value
abbrev pub IsPast : List ℕ → Type 0
IsPast bytes = 16777216 < length bytes
