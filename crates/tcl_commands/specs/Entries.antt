-- Commands that change one entry of what a variable holds: an element of a list, or the value of a
-- key of a dict.
use Rattle.std.specs.Prelude.{ℕ, List, [], ◌∷◌, ◌++◌, Option, None, Some, codes}
use Rattle.tcl_core.specs.Paths.{Text}
use Rattle.tcl_interpreter.specs.declared.builtin.Builtin.{Builtin}
use Rattle.tcl_interpreter.specs.declared.builtin.Builtin.TheVariants as name
use Rattle.tcl_commands.specs.declared.entries.Verb.{Verb}
use Rattle.tcl_commands.specs.declared.entries.Verb.TheVariants.{Set, Incr, Append, Lappend}
use Rattle.tcl_commands.specs.declared.entries.EntryChange.{EntryChange}
use Rattle.tcl_commands.specs.declared.entries.EntryChange.TheVariants.{Element, SetKey, AddToKey}
use Rattle.tcl_commands.specs.declared.entries.EntryChange.TheVariants.{AppendToKey, LappendToKey}

-- the names of the subcommands of `dict` that change the value of one key
abbrev pub verb_name : Verb → List ℕ
verb_name Set = codes "set"
verb_name Incr = codes "incr"
verb_name Append = codes "append"
verb_name Lappend = codes "lappend"

-- the command that makes the change
abbrev pub builtin_of : EntryChange → Builtin
builtin_of (Element index value) = name.Lset
builtin_of (SetKey key value) = name.Dict
builtin_of (AddToKey key by) = name.Dict
builtin_of (AppendToKey key value) = name.Dict
builtin_of (LappendToKey key value) = name.Dict

-- its words before the variable's name: the subcommand of `dict`
abbrev pub words_before : EntryChange → List Text
words_before (Element index value) = []
words_before (SetKey key value) = codes "set" ∷ []
words_before (AddToKey key by) = codes "incr" ∷ []
words_before (AppendToKey key value) = codes "append" ∷ []
words_before (LappendToKey key value) = codes "lappend" ∷ []

-- an increment, where one is given
abbrev pub given_words : Option Text → List Text
given_words None = []
given_words (Some by) = by ∷ []

-- and those behind it
abbrev pub words_behind : EntryChange → List Text
words_behind (Element index value) = index ∷ value ∷ []
words_behind (SetKey key value) = key ∷ value ∷ []
words_behind (AddToKey key by) = key ∷ given_words by
words_behind (AppendToKey key value) = key ∷ value ∷ []
words_behind (LappendToKey key value) = key ∷ value ∷ []

-- all its words, where the variable has this name
abbrev pub words_of : Text → EntryChange → List Text
words_of name change = words_before change ++ name ∷ words_behind change
