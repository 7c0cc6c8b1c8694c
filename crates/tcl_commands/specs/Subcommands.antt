-- The subcommands of `dict` by their names, and what each gives.
use Rattle.std.specs.Prelude.{if◌then◌else◌, List, Err, Some, None, codes}
use Rattle.std.specs.declared.option.Option.{Option}
use Rattle.std.specs.Str.{bytes_eq}
use Rattle.tcl_core.specs.Paths.{Text}
use Rattle.tcl_dicts.specs.Dicts.{create_of, exists_of, get_of, keys_of, merge_of, remove_of}
use Rattle.tcl_dicts.specs.Dicts.{replace_of, size_of, values_of}
use Rattle.tcl_language.specs.Faults.{unknown_subcommand}
use Rattle.tcl_words.specs.Outcomes.{Outcome}
use Rattle.tcl_commands.specs.declared.subcommand.Subcommand.{Subcommand}
use Rattle.tcl_commands.specs.declared.subcommand.Subcommand.TheVariants.{Create, Get, Exists, Keys}
use Rattle.tcl_commands.specs.declared.subcommand.Subcommand.TheVariants.{Values, Size, Merge}
use Rattle.tcl_commands.specs.declared.subcommand.Subcommand.TheVariants.{Replace, Remove}

-- the subcommand that a word names
abbrev pub subcommand_of : Text → Option Subcommand
subcommand_of word =
    if bytes_eq word (codes "create") then Some Create
    else (if bytes_eq word (codes "get") then Some Get
    else (if bytes_eq word (codes "exists") then Some Exists
    else (if bytes_eq word (codes "keys") then Some Keys
    else (if bytes_eq word (codes "values") then Some Values
    else (if bytes_eq word (codes "size") then Some Size
    else (if bytes_eq word (codes "merge") then Some Merge
    else (if bytes_eq word (codes "replace") then Some Replace
    else (if bytes_eq word (codes "remove") then Some Remove
    else None))))))))

-- what each gives for its words
abbrev pub outcome_of : Subcommand → List Text → Outcome
outcome_of Create words = create_of words
outcome_of Get words = get_of words
outcome_of Exists words = exists_of words
outcome_of Keys words = keys_of words
outcome_of Values words = values_of words
outcome_of Size words = size_of words
outcome_of Merge words = merge_of words
outcome_of Replace words = replace_of words
outcome_of Remove words = remove_of words

-- what comes of a word that names this subcommand, or none
abbrev pub outcome_or : Text → Option Subcommand → List Text → Outcome
outcome_or word None words = Err (unknown_subcommand word)
outcome_or word (Some subcommand) words = outcome_of subcommand words
