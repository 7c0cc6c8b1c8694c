-- The subcommands of `dict` that change a variable, by their names, and the program of each.
use Rattle.std.specs.Prelude.{if◌then◌else◌, List, Some, None, codes}
use Rattle.std.specs.declared.option.Option.{Option}
use Rattle.std.specs.Str.{bytes_eq}
use Rattle.tcl_core.specs.Paths.{Text}
use Rattle.tcl_language.specs.Changes.{dict_append, dict_incr, dict_lappend, dict_set, dict_unset}
use Rattle.tcl_language.specs.Instructions.{Program}
use Rattle.tcl_text.specs.declared.integer.Integers.{Integers}
use Rattle.tcl_commands.specs.declared.changes.Change.{Change}
use Rattle.tcl_commands.specs.declared.changes.Change.TheVariants.{Set, Unset, Incr, Append}
use Rattle.tcl_commands.specs.declared.changes.Change.TheVariants.{Lappend}

-- the change that a word names
abbrev pub change_of : Text → Option Change
change_of word =
    if bytes_eq word (codes "set") then Some Set
    else (if bytes_eq word (codes "unset") then Some Unset
    else (if bytes_eq word (codes "incr") then Some Incr
    else (if bytes_eq word (codes "append") then Some Append
    else (if bytes_eq word (codes "lappend") then Some Lappend
    else None))))

-- the program of each
abbrev pub program_of : Change → Integers → List Text → Program
program_of Set style args = dict_set style args
program_of Unset style args = dict_unset style args
program_of Incr style args = dict_incr style args
program_of Append style args = dict_append style args
program_of Lappend style args = dict_lappend style args

-- what comes of a word that names this change, or none
abbrev pub program_or : Program → Integers → Option Change → List Text → Program
program_or other style None args = other
program_or other style (Some change) args = program_of change style args
