-- The texts of errors.
use Rattle.std.specs.Prelude.{ℕ, List, ◌++◌, codes}
use Rattle.tcl_text.specs.Messages as messages

-- a text between this front and a quotation mark
abbrev pub quoted : List ℕ → List ℕ → List ℕ
quoted front text = front ++ text ++ codes "\""

abbrev pub wrong_arguments : List ℕ → List ℕ
wrong_arguments form = quoted (codes "wrong # args: should be \"") form

abbrev pub bad_option : List ℕ → List ℕ
bad_option text = quoted (codes "bad option \"") text

abbrev pub bad_index : List ℕ → List ℕ
bad_index text = quoted (codes "bad index \"") text

abbrev pub bad_count : List ℕ → List ℕ
bad_count text = quoted (codes "bad count \"") text

abbrev pub unknown_subcommand : List ℕ → List ℕ
unknown_subcommand text = quoted (codes "unknown subcommand \"") text

abbrev pub not_integer : List ℕ → List ℕ
not_integer text = quoted (codes "expected integer but got \"") text

abbrev pub too_large : List ℕ
too_large = codes "integer value too large to represent"

abbrev pub missing_value : List ℕ
missing_value = messages.missing_value

abbrev pub too_long : List ℕ
too_long = messages.too_long
