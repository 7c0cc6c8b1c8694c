-- The commands that change what a variable holds: `lset`, and the subcommands of `dict` that name a
-- variable. All go one way: the words are read, then the variable, then the change is made, and the
-- variable is set to what it makes; a change that is refused leaves it as it was.
use Rattle.std.specs.Prelude.{Bool, true, false, List, [], ◌∷◌, Result, codes}
use Rattle.std.specs.Str.{bytes_eq}
use Rattle.tcl_core.specs.Paths.{Text}
use Rattle.tcl_core.specs.Endings.{ok}
use Rattle.tcl_core.specs.Programs.Prog.{done}
use Rattle.tcl_dicts.specs.Changing.{append_of, incr_of, lappend_of, set_of, set_words_of, unset_of}
use Rattle.tcl_frames.specs.Chain.{read}
use Rattle.tcl_lists.specs.Changing.{lset_of}
use Rattle.tcl_lists.specs.Lists.{first_middle_last, two_and_rest}
use Rattle.tcl_text.specs.declared.integer.Integers.{Integers}
use Rattle.tcl_frames.specs.declared.fault.FrameFault.{FrameFault}
use Rattle.tcl_words.specs.Arguments.{two_or_three_words}
use Rattle.tcl_words.specs.Outcomes.{Outcome}
use Rattle.tcl_language.specs.Data as collections
use Rattle.tcl_language.specs.Data.{given}
use Rattle.tcl_language.specs.Faults.{frame_message}
use Rattle.tcl_language.specs.Instructions.{Program, either, look, or_fails}
use Rattle.tcl_language.specs.Variables.{or_missing, sets}

-- what a variable holds, which is empty where there is none and the change makes one
abbrev pub or_empty : Bool → Result Text FrameFault → Result Text FrameFault
or_empty true found = or_missing [] found
or_empty false found = found

-- the variable becomes what a change makes of what it holds, and that is the result
abbrev pub changes : Bool → Text → (Text → Outcome) → Program
changes makes name change = look
    (λ n. or_fails frame_message (or_empty makes (read n.own.chain.frames name))
    (λ old. given (change old) (λ new. sets name new (done (ok new)))))

-- on with what the words of a command are, or the error of their number
abbrev pub with_words : {A : Type 0} → Result A Text → (A → Program) → Program
with_words words k = or_fails (λ message. message) words k

-- `lset varName ?index ...? newValue`: there is such a variable
abbrev pub lset : Integers → List Text → Program
lset style args = with_words (first_middle_last (codes "lset varName ?index ...? newValue") args)
    (λ p. changes false p.0 (λ old. lset_of style old p.1 p.2))

-- ## Dicts: a missing variable is an empty one

-- `dict set varName key ?key ...? value`
abbrev pub dict_set : Integers → List Text → Program
dict_set style args = with_words (set_words_of args)
    (λ p. changes true p.0 (λ old. set_of old p.1 p.2))

-- `dict unset varName key ?key ...?`
abbrev pub dict_unset : Integers → List Text → Program
dict_unset style args =
    with_words (first_middle_last (codes "dict unset varName key ?key ...?") args)
    (λ p. changes true p.0 (λ old. unset_of old p.1 p.2))

-- `dict incr varName key ?increment?`
abbrev pub dict_incr : Integers → List Text → Program
dict_incr style args =
    with_words (two_or_three_words (codes "dict incr varName key ?increment?") args)
    (λ p. changes true p.0 (λ old. incr_of style old p.1 p.2))

-- `dict append varName key ?string ...?`
abbrev pub dict_append : Integers → List Text → Program
dict_append style args =
    with_words (two_and_rest (codes "dict append varName key ?string ...?") args)
    (λ p. changes true p.0 (λ old. append_of old p.1 p.2))

-- `dict lappend varName key ?value ...?`
abbrev pub dict_lappend : Integers → List Text → Program
dict_lappend style args =
    with_words (two_and_rest (codes "dict lappend varName key ?value ...?") args)
    (λ p. changes true p.0 (λ old. lappend_of old p.1 p.2))

abbrev pub Change : Type 0
Change = Text × (Integers → List Text → Program)

abbrev pub dict_changes : List Change
dict_changes = (codes "set", dict_set) ∷ (codes "unset", dict_unset) ∷ (codes "incr", dict_incr) ∷
    (codes "append", dict_append) ∷ (codes "lappend", dict_lappend) ∷ []

-- the change that a word names, or another program
abbrev pub change_or : Program → Integers → List Change → Text → List Text → Program
change_or other style [] word args = other
change_or other style (c ∷ rest) word args = either (bytes_eq word c.0) (c.1 style args)
    (change_or other style rest word args)

-- `dict subcommand ?arg ...?`: one that changes a variable, or one that is a function of its words
abbrev pub dict : Integers → List Text → Program
dict style [] = collections.dict []
dict style (word ∷ args) = change_or (collections.dict (word ∷ args)) style dict_changes word args
