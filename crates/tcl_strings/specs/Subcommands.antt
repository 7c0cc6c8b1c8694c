-- The command string.
use Rattle.std.specs.Prelude.{ℕ, if◌then◌else◌, List, [], ◌∷◌, Err, Some, None, codes}
use Rattle.std.specs.declared.option.Option.{Option}
use Rattle.std.specs.Str.{bytes_eq}
use Rattle.tcl_text.specs.declared.integer.Integers.{Integers}
use Rattle.tcl_words.specs.Outcomes.{Outcome}
use Rattle.tcl_words.specs.Faults.{wrong_arguments, unknown_subcommand}
use Rattle.tcl_strings.specs.Parts.{length_of, index_of, range_of, replace_of, reverse_of, trim_of}
use Rattle.tcl_strings.specs.Parts.{trim_left_of, trim_right_of}
use Rattle.tcl_strings.specs.Comparing.{equal_of, compare_of, match_of}
use Rattle.tcl_strings.specs.Searching.{first_of, last_of}
use Rattle.tcl_strings.specs.Making.{repeat_of, to_lower_of, to_upper_of, cat_of, map_of}
use Rattle.tcl_strings.specs.Kinds.{is_of}
use Rattle.tcl_strings.specs.declared.subcommand.Subcommand.{Subcommand}
use Rattle.tcl_strings.specs.declared.subcommand.Subcommand.TheVariants.{Length, Index, Range}
use Rattle.tcl_strings.specs.declared.subcommand.Subcommand.TheVariants.{Equal, Compare, Match, Map}
use Rattle.tcl_strings.specs.declared.subcommand.Subcommand.TheVariants.{First, Last, Repeat}
use Rattle.tcl_strings.specs.declared.subcommand.Subcommand.TheVariants.{Reverse, Replace, ToLower}
use Rattle.tcl_strings.specs.declared.subcommand.Subcommand.TheVariants.{ToUpper, Trim, TrimLeft}
use Rattle.tcl_strings.specs.declared.subcommand.Subcommand.TheVariants.{TrimRight, Cat, Is}

abbrev pub or_else : Option Subcommand → Option Subcommand → Option Subcommand
or_else (Some a) b = Some a
or_else None b = b

abbrev pub part_of : List ℕ → Option Subcommand
part_of name =
    if bytes_eq name (codes "length") then Some Length
    else (if bytes_eq name (codes "index") then Some Index
    else (if bytes_eq name (codes "range") then Some Range
    else (if bytes_eq name (codes "first") then Some First
    else (if bytes_eq name (codes "last") then Some Last
    else None))))

abbrev pub test_of : List ℕ → Option Subcommand
test_of name =
    if bytes_eq name (codes "equal") then Some Equal
    else (if bytes_eq name (codes "compare") then Some Compare
    else (if bytes_eq name (codes "match") then Some Match
    else (if bytes_eq name (codes "is") then Some Is
    else None)))

abbrev pub making_of : List ℕ → Option Subcommand
making_of name =
    if bytes_eq name (codes "map") then Some Map
    else (if bytes_eq name (codes "repeat") then Some Repeat
    else (if bytes_eq name (codes "reverse") then Some Reverse
    else (if bytes_eq name (codes "replace") then Some Replace
    else (if bytes_eq name (codes "cat") then Some Cat
    else None))))

abbrev pub change_of : List ℕ → Option Subcommand
change_of name =
    if bytes_eq name (codes "tolower") then Some ToLower
    else (if bytes_eq name (codes "toupper") then Some ToUpper
    else (if bytes_eq name (codes "trim") then Some Trim
    else (if bytes_eq name (codes "trimleft") then Some TrimLeft
    else (if bytes_eq name (codes "trimright") then Some TrimRight
    else None))))

-- the subcommand of a name
abbrev pub subcommand_of : List ℕ → Option Subcommand
subcommand_of name = or_else (part_of name)
    (or_else (test_of name) (or_else (making_of name) (change_of name)))

-- what a subcommand answers its words
abbrev pub outcome_of : Integers → Subcommand → List (List ℕ) → Outcome
outcome_of style Length words = length_of words
outcome_of style Index words = index_of style words
outcome_of style Range words = range_of style words
outcome_of style Equal words = equal_of words
outcome_of style Compare words = compare_of words
outcome_of style Match words = match_of words
outcome_of style Map words = map_of words
outcome_of style First words = first_of style words
outcome_of style Last words = last_of style words
outcome_of style Repeat words = repeat_of style words
outcome_of style Reverse words = reverse_of words
outcome_of style Replace words = replace_of style words
outcome_of style ToLower words = to_lower_of words
outcome_of style ToUpper words = to_upper_of words
outcome_of style Trim words = trim_of words
outcome_of style TrimLeft words = trim_left_of words
outcome_of style TrimRight words = trim_right_of words
outcome_of style Cat words = cat_of words
outcome_of style Is words = is_of style words

abbrev pub outcome_or : Integers → List ℕ → Option Subcommand → List (List ℕ) → Outcome
outcome_or style name None words = Err (unknown_subcommand name)
outcome_or style name (Some subcommand) words = outcome_of style subcommand words

-- what `string` answers its words
abbrev pub string_of : Integers → List (List ℕ) → Outcome
string_of style [] = Err (wrong_arguments (codes "string subcommand ?arg ...?"))
string_of style (name ∷ words) = outcome_or style name (subcommand_of name) words
