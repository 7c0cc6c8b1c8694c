-- What contracts see of the words of a `switch`.
use Rattle.std.specs.Prelude.{◌≡◌, true, false, List, ◌∷◌, Err}
use Rattle.tcl_core.specs.Paths.{Text}
use Rattle.tcl_language.specs.Interpreters.{bad_option, is_option}
use Rattle.tcl_language.specs.Switching.{Manner, Choice, behind_options, option_first}
use Rattle.tcl_calls.specs.declared.switching.Manner as read
use Rattle.tcl_calls.specs.declared.switching.OptionWord.{OptionWord}
use Rattle.tcl_calls.specs.declared.switching.OptionWord.TheVariants.{Sets, Ends, Unknown, Compared}

abbrev pub manner_of : read.Manner → Manner
manner_of m = record { glob = m.glob; nocase = m.nocase }

-- what a word is that stands before others
abbrev pub IsOption : OptionWord → Text → Manner → Type 0
IsOption (Sets other) word manner = (words : List Text) (go_on : Manner → Choice) →
    option_first word manner words go_on ≡ go_on (manner_of other)
IsOption Ends word manner = (words : List Text) (go_on : Manner → Choice) →
    option_first word manner words go_on ≡ behind_options manner words
IsOption Unknown word manner = (words : List Text) (go_on : Manner → Choice) →
    option_first word manner words go_on ≡ Err (bad_option word)
IsOption Compared word manner = (words : List Text) (go_on : Manner → Choice) →
    option_first word manner words go_on ≡ behind_options manner (word ∷ words)

-- and one that names no option
abbrev pub IsOther : OptionWord → Text → Type 0
IsOther (Sets other) word = Prim.⊥
IsOther Ends word = Prim.⊥
IsOther Unknown word = is_option word ≡ true
IsOther Compared word = is_option word ≡ false
