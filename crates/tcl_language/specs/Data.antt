-- The commands on lists, dicts and texts: those that are functions of their words, and those that
-- set variables too.
use Rattle.std.specs.Prelude.{List, [], ◌∷◌, length, Err, codes}
use Rattle.std.specs.Str.{bytes_eq}
use Rattle.tcl_core.specs.Paths.{Text}
use Rattle.tcl_core.specs.Endings.{ok}
use Rattle.tcl_core.specs.Programs.Prog.{done}
use Rattle.tcl_text.specs.Lists.{list_of}
use Rattle.tcl_text.specs.Writing.{fault_message}
use Rattle.tcl_words.specs.Outcomes.{Outcome}
use Rattle.tcl_lists.specs.Lists.{lappend_of, lassign_rest}
use Rattle.tcl_dicts.specs.Dicts.{create_of, exists_of, get_of, keys_of, merge_of, remove_of}
use Rattle.tcl_dicts.specs.Dicts.{replace_of, size_of, values_of}
use Rattle.tcl_language.specs.Instructions.{Program, either, fails, or_fails}
use Rattle.tcl_language.specs.Faults.{wrong_args, unknown_subcommand}
use Rattle.tcl_language.specs.Variables.{reads_or, sets}
use Rattle.tcl_language.specs.Control.{sets_names}

-- on with what a function of texts gives, or the error
abbrev pub given : Outcome → (Text → Program) → Program
given outcome k = or_fails (λ message. message) outcome k

-- a command that is a function of its words
abbrev pub answered : Outcome → Program
answered outcome = given outcome (λ text. done (ok text))

-- ## Lists

-- `lappend varName ?value ...?`: a missing variable is an empty list
abbrev pub lappend : List Text → Program
lappend [] = fails (wrong_args (codes "lappend varName ?value ...?"))
lappend (name ∷ values) = reads_or name []
    (λ old. given (lappend_of old values) (λ new. sets name new (done (ok new))))

-- `lassign list ?varName ...?`: the variables are set to the elements, from the left, and to empty
-- texts where none is left; it gives the elements that are left
abbrev pub lassign : List Text → Program
lassign [] = fails (wrong_args (codes "lassign list ?varName ...?"))
lassign (list ∷ names) = or_fails fault_message (list_of list)
    (λ elements. sets_names names elements
    (λ left. answered (lassign_rest (length names) elements)))

-- ## Dicts

-- the subcommands that are functions of their words
abbrev pub Subcommand : Type 0
Subcommand = Text × (List Text → Outcome)

abbrev pub dict_subcommands : List Subcommand
dict_subcommands =
    (codes "create", create_of) ∷ (codes "get", get_of) ∷ (codes "exists", exists_of) ∷ (
      codes
          "keys",
      keys_of,
    ) ∷ (codes "values", values_of) ∷
    (codes "size", size_of) ∷ (codes "merge", merge_of) ∷ (codes "replace", replace_of) ∷ (
      codes
          "remove",
      remove_of,
    ) ∷ []

abbrev pub subcommand_in : List Subcommand → Text → List Text → Outcome
subcommand_in [] word = λ args. Err (unknown_subcommand word)
subcommand_in (s ∷ rest) word = either (bytes_eq word s.0) s.1 (subcommand_in rest word)

-- `dict subcommand ?arg ...?`
abbrev pub dict : List Text → Program
dict [] = fails (wrong_args (codes "dict subcommand ?arg ...?"))
dict (word ∷ args) = answered (subcommand_in dict_subcommands word args)
