-- `dict`, with the subcommand that evaluates a script. (dict(n))
use Rattle.std.specs.Prelude.{List, [], ◌∷◌, ◌==◌, length, codes}
use Rattle.std.specs.Str.{bytes_eq}
use Rattle.tcl_core.specs.Paths.{Text}
use Rattle.tcl_core.specs.Programs.Prog.{done, go}
use Rattle.tcl_text.specs.declared.integer.Integers.{Integers}
use Rattle.tcl_text.specs.Lists.{list_of}
use Rattle.tcl_text.specs.Writing.{fault_message}
use Rattle.tcl_value.specs.Texts.{flat}
use Rattle.tcl_dicts.specs.Dicts.{dict_word}
use Rattle.tcl_language.specs.Instructions.{Walk, Program, either, fails, or_fails}
use Rattle.tcl_language.specs.Instructions.Instr.{Foreach}
use Rattle.tcl_language.specs.Faults.{wrong_args}
use Rattle.tcl_language.specs.Changes as changes

abbrev pub dict_for_form : Text
dict_for_form = codes "dict for {keyVar valueVar} dictionary body"

-- on with the walk of two names through the keys of a dict, each with its value behind it
abbrev pub entries_walk : Text → Text → (Walk → Program) → Program
entries_walk names dict k = or_fails fault_message (list_of names)
    (λ xs. either (length xs == 2)
    (or_fails (λ message. message) (dict_word dict)
    (λ entries. k (record { names = xs; left = flat entries })))
    (fails (wrong_args dict_for_form)))

-- on with the one walk and the body that the words of such a loop are
abbrev pub dict_loop : List Text → (List Walk → Text → Program) → Program
dict_loop (names ∷ dict ∷ body ∷ []) k = entries_walk names dict (λ walk. k (walk ∷ []) body)
dict_loop _ k = fails (wrong_args dict_for_form)

-- `dict for {keyVar valueVar} dictionary body`
abbrev pub dict_for : List Text → Program
dict_for words = dict_loop words (λ walks body. go (Foreach walks body) done)

-- `dict subcommand ?arg ...?`: one that evaluates a body, or one that evaluates nothing
abbrev pub dict : Integers → List Text → Program
dict style [] = changes.dict style []
dict style (word ∷ args) = either (bytes_eq word (codes "for")) (dict_for args)
    (changes.dict style (word ∷ args))
