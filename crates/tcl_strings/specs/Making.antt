-- The subcommands repeat, tolower, toupper, cat, map.
use Rattle.std.specs.Prelude.{ℕ, ◌%◌, ◌==◌, ℤ, pos, negsuc, if◌then◌else◌, List, length, map, Ok}
use Rattle.std.specs.Prelude.{Err, codes}
use Rattle.std.specs.declared.result.Result.{Result}
use Rattle.std.specs.Char.{to_ascii_lowercase, to_ascii_uppercase}
use Rattle.std.specs.Str.{chars}
use Rattle.tcl_text.specs.declared.integer.Integers.{Integers}
use Rattle.tcl_words.specs.Outcomes.{Outcome, next}
use Rattle.tcl_words.specs.Arguments.{one_word, two_words}
use Rattle.tcl_words.specs.Faults.{missing_value}
use Rattle.tcl_words.specs.Words.{integer_word, list_word}
use Rattle.tcl_words.specs.Limits.{limited}
use Rattle.tcl_characters.specs.Texts.{text_of, copies, joined}
use Rattle.tcl_characters.specs.Mapping.{mapped}
use Rattle.tcl_strings.specs.Options.{nocase_words}

-- how often a text stands in what repeats it
abbrev pub times : ℤ → ℕ
times (pos n) = n
times (negsuc n) = 0

abbrev pub repeat_of : Integers → List (List ℕ) → Outcome
repeat_of style words =
    next (two_words (codes "string repeat s count") words) (λ p.
    next (integer_word style p.1) (λ count. limited (copies (times count) p.0)))

abbrev pub to_lower_of : List (List ℕ) → Outcome
to_lower_of words = next (one_word (codes "string tolower s") words)
    (λ s. limited (text_of (map to_ascii_lowercase (chars s))))

abbrev pub to_upper_of : List (List ℕ) → Outcome
to_upper_of words = next (one_word (codes "string toupper s") words)
    (λ s. limited (text_of (map to_ascii_uppercase (chars s))))

abbrev pub cat_of : List (List ℕ) → Outcome
cat_of words = limited (joined words)

-- a list of keys and what stands for each, or 121 where the last has nothing
abbrev pub pairs : List (List ℕ) → Result (List (List ℕ)) (List ℕ)
pairs list = if length list % 2 == 0 then Ok list else Err missing_value

abbrev pub mapping_word : List ℕ → Result (List (List ℕ)) (List ℕ)
mapping_word word = next (list_word word) pairs

abbrev pub map_of : List (List ℕ) → Outcome
map_of words =
    next (nocase_words (codes "string map ?-nocase? mapping s") words) (λ p.
    next (mapping_word p.1) (λ mapping. limited (mapped p.0 mapping (chars p.2) 0)))
