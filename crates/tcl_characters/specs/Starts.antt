-- The bytes at which the characters of a text begin.
use Rattle.std.specs.Prelude.{ℕ, Bool, ◌||◌, nat_lt, nat_le}

-- whether a byte of a text is the first of a character: every byte that doesn't continue one
abbrev pub begins_character : ℕ → Bool
begins_character b = nat_lt b 128 || nat_le 192 b
