-- Words with an option.
use Rattle.std.specs.Prelude.{ℕ, Bool, true, false, if◌then◌else◌, List, [], ◌∷◌, Ok, Err, codes}
use Rattle.std.specs.declared.result.Result.{Result}
use Rattle.std.specs.Str.{bytes_eq}
use Rattle.tcl_words.specs.Faults.{wrong_arguments, bad_option}

-- two words, before which `-nocase` may stand: whether it does, and the words
abbrev pub nocase_words : List ℕ → List (List ℕ) → Result (Bool × List ℕ × List ℕ) (List ℕ)
nocase_words form (a ∷ b ∷ []) = Ok (false, a, b)
nocase_words form (option ∷ a ∷ b ∷ []) = if bytes_eq option (codes "-nocase") then Ok (true, a, b)
    else Err (bad_option option)
nocase_words form words = Err (wrong_arguments form)
