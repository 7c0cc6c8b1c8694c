-- The words of a command, by their number.
use Rattle.std.specs.Prelude.{ℕ, List, [], ◌∷◌, Ok, Err}
use Rattle.std.specs.declared.result.Result.{Result}
use Rattle.std.specs.declared.option.Option.{Option}
use Rattle.std.specs.declared.option.Option.TheVariants.{None, Some}
use Rattle.tcl_words.specs.Faults.{wrong_arguments}

abbrev pub one_word : List ℕ → List (List ℕ) → Result (List ℕ) (List ℕ)
one_word form (a ∷ []) = Ok a
one_word form words = Err (wrong_arguments form)

abbrev pub two_words : List ℕ → List (List ℕ) → Result (List ℕ × List ℕ) (List ℕ)
two_words form (a ∷ b ∷ []) = Ok (a, b)
two_words form words = Err (wrong_arguments form)

abbrev pub three_words : List ℕ → List (List ℕ) → Result (List ℕ × List ℕ × List ℕ) (List ℕ)
three_words form (a ∷ b ∷ c ∷ []) = Ok (a, b, c)
three_words form words = Err (wrong_arguments form)

-- a word that must stand, and one that may
abbrev pub one_or_two_words : List ℕ → List (List ℕ) → Result (List ℕ × Option (List ℕ)) (List ℕ)
one_or_two_words form (a ∷ []) = Ok (a, None)
one_or_two_words form (a ∷ b ∷ []) = Ok (a, Some b)
one_or_two_words form words = Err (wrong_arguments form)

abbrev pub two_or_three_words : List ℕ → List (List ℕ) →
    Result (List ℕ × List ℕ × Option (List ℕ)) (List ℕ)
two_or_three_words form (a ∷ b ∷ []) = Ok (a, b, None)
two_or_three_words form (a ∷ b ∷ c ∷ []) = Ok (a, b, Some c)
two_or_three_words form words = Err (wrong_arguments form)

abbrev pub three_or_four_words : List ℕ → List (List ℕ) →
    Result (List ℕ × List ℕ × List ℕ × Option (List ℕ)) (List ℕ)
three_or_four_words form (a ∷ b ∷ c ∷ []) = Ok (a, b, c, None)
three_or_four_words form (a ∷ b ∷ c ∷ d ∷ []) = Ok (a, b, c, Some d)
three_or_four_words form words = Err (wrong_arguments form)
