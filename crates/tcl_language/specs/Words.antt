-- Words put together into a script.
use Rattle.std.specs.Prelude.{Bool, true, false, List, [], ◌∷◌, ◌==◌, cond, ◌&&◌, nat_le, codes}
use Rattle.tcl_core.specs.Paths.{Text}
use Rattle.tcl_lists.specs.Joining.{joined, filled}

-- White space is trimmed off both ends of each word, what is then empty left out, and the rest
-- joined by one space.
abbrev pub concat : List Text → Text
concat xs = joined (codes " ") (filled xs)

-- whether a word can be a level that `uplevel` takes: digits, or `#` and digits
abbrev pub are_digits : Text → Bool
are_digits [] = true
are_digits (c ∷ cs) = (nat_le 48 c && nat_le c 57) && are_digits cs

abbrev pub some_digits : Text → Bool
some_digits [] = false
some_digits (c ∷ cs) = are_digits (c ∷ cs)

abbrev pub is_level : Text → Bool
is_level [] = false
is_level (c ∷ cs) = cond (c == 35) (some_digits cs) (some_digits (c ∷ cs))
