-- What contracts see of scripts at another level.
use Rattle.std.specs.Prelude.{ℕ, Bool, true, false, List, [], ◌∷◌, Option, Some, None, Result, Ok}
use Rattle.std.specs.Prelude.{Err, codes}
use Rattle.tcl_core.specs.Paths.{Text}
use Rattle.tcl_core.specs.Trees.{Node}
use Rattle.tcl_frames.specs.Places.{current}
use Rattle.tcl_language.specs.Faults.{bad_level, wrong_args}
use Rattle.tcl_language.specs.Variables.{level_of}
use Rattle.tcl_language.specs.Words.{is_level}
use Rattle.tcl_text.specs.declared.integer.Integers.{Integers}
use Rattle.tcl_tree.specs.Own.{Own}

-- the level that a word names, or the error that it names none
abbrev pub or_bad : Text → Option ℕ → Result ℕ Text
or_bad word None = Err (bad_level word)
or_bad word (Some n) = Ok n

abbrev pub level_at_node : Integers → Node Own → Text → Result ℕ Text
level_at_node style n word = or_bad word (level_of style (current n.own.chain.frames) word)

abbrev pub with_script : Result ℕ Text → List Text → Result (ℕ × List Text) Text
with_script (Err e) words = Err e
with_script (Ok n) words = Ok (n, words)

abbrev pub levelled : Integers → Node Own → Text → List Text → Bool → Result (ℕ × List Text) Text
levelled style n word rest true = with_script (level_at_node style n word) rest
levelled style n word rest false = with_script (level_at_node style n (codes "1")) (word ∷ rest)

-- the level that the words of an `uplevel` name, and those that are its script
abbrev pub script_level : Integers → Node Own → List Text → Result (ℕ × List Text) Text
script_level style n [] = Err (wrong_args (codes "uplevel ?level? arg ?arg ...?"))
script_level style n (arg ∷ []) = with_script (level_at_node style n (codes "1")) (arg ∷ [])
script_level style n (word ∷ arg ∷ args) = levelled style n word (arg ∷ args) (is_level word)
