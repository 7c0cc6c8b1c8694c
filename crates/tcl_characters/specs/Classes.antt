-- Classes of characters.
use Rattle.std.specs.Prelude.{ℕ, Bool}
use Rattle.std.specs.Char.{is_ascii_alphabetic, is_ascii_digit, is_ascii_alphanumeric}
use Rattle.std.specs.Char.{is_ascii_uppercase, is_ascii_lowercase, is_ascii_hexdigit}
use Rattle.tcl_text.specs.Lists.{is_white}
use Rattle.tcl_characters.specs.declared.classes.Class.{Class}
use Rattle.tcl_characters.specs.declared.classes.Class.TheVariants.{Alpha, Digit, Alnum, Upper}
use Rattle.tcl_characters.specs.declared.classes.Class.TheVariants.{Lower, Space, Xdigit}

-- whether a character is of a class; white space is that of lists
abbrev pub is_member : Class → ℕ → Bool
is_member Alpha c = is_ascii_alphabetic c
is_member Digit c = is_ascii_digit c
is_member Alnum c = is_ascii_alphanumeric c
is_member Upper c = is_ascii_uppercase c
is_member Lower c = is_ascii_lowercase c
is_member Space c = is_white c
is_member Xdigit c = is_ascii_hexdigit c
