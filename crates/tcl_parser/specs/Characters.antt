-- The characters that mean something in a script, as bytes: each is ASCII, and UTF-8 hides no ASCII
-- byte in another character.
use Rattle.std.specs.Prelude.{ℕ, ◌==◌, Bool, ◌&&◌, ◌||◌}
use Rattle.std.specs.Int.{is_in_range}

abbrev pub newline : ℕ
newline = 10

abbrev pub quote : ℕ
quote = 34

abbrev pub hash : ℕ
hash = 35

abbrev pub dollar : ℕ
dollar = 36

abbrev pub open_parenthesis : ℕ
open_parenthesis = 40

abbrev pub close_parenthesis : ℕ
close_parenthesis = 41

abbrev pub asterisk : ℕ
asterisk = 42

abbrev pub colon : ℕ
colon = 58

abbrev pub semicolon : ℕ
semicolon = 59

abbrev pub open_bracket : ℕ
open_bracket = 91

abbrev pub backslash : ℕ
backslash = 92

abbrev pub close_bracket : ℕ
close_bracket = 93

abbrev pub open_brace : ℕ
open_brace = 123

abbrev pub close_brace : ℕ
close_brace = 125

-- white space between words: space, tab, vertical tab, form feed, carriage return
abbrev pub is_white : ℕ → Bool
is_white b = (b == 32) || (b == 9) || (b == 11) || (b == 12) || (b == 13)

-- what separates commands
abbrev pub is_separator : ℕ → Bool
is_separator b = (b == newline) || (b == semicolon)

-- what a command ends at: a separator, and inside brackets the close bracket
abbrev pub is_command_end : Bool → ℕ → Bool
is_command_end inside b = is_separator b || (inside && (b == close_bracket))

-- a letter, a digit or an underscore
abbrev pub is_name_character : ℕ → Bool
is_name_character b = is_in_range 97 122 b || is_in_range 65 90 b || is_in_range 48 57 b ||
    (b == 95)

-- where substitution begins
abbrev pub is_substitution : ℕ → Bool
is_substitution b = (b == dollar) || (b == open_bracket) || (b == backslash)
