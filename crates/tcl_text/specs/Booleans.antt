-- Boolean texts.
use Rattle.std.specs.Prelude.{ℕ, ◌==◌, ◌&&◌, not, codes, count_by, Bool, true, false, if◌then◌else◌}
use Rattle.std.specs.Prelude.{List, [], ◌∷◌, ℤ, pos, negsuc, Option, None, Some, Result, Ok, Err}
use Rattle.std.specs.Char.{to_ascii_lowercase}
use Rattle.tcl_text.specs.declared.integer.Integers.{Integers}
use Rattle.tcl_text.specs.declared.integer.IntegerFault.{IntegerFault}
use Rattle.tcl_text.specs.Numbers.{integer_of, in_64_bits}

-- the words of truth and those of falsehood
abbrev pub true_words : List (List ℕ)
true_words = codes "true" ∷ codes "yes" ∷ codes "on" ∷ []

abbrev pub false_words : List (List ℕ)
false_words = codes "false" ∷ codes "no" ∷ codes "off" ∷ []

-- the word begins with the text, whose ASCII letters may be of either case
abbrev pub abbreviates : List ℕ → List ℕ → Bool
abbreviates [] word = true
abbreviates (c ∷ cs) [] = false
abbreviates (c ∷ cs) (d ∷ ds) = to_ascii_lowercase c == d && abbreviates cs ds

-- how many of the words the text abbreviates
abbrev pub fitting : List ℕ → List (List ℕ) → ℕ
fitting text words = count_by (λ word. abbreviates text word) words

-- the truth value of a text that abbreviates one word only
abbrev pub word_truth : List ℕ → Option Bool
word_truth text =
    if fitting text true_words == 1 && fitting text false_words == 0 then Some true
    else if fitting text true_words == 0 && fitting text false_words == 1 then Some false
    else None

-- a number is true where it isn't 0
abbrev pub is_not_zero : ℤ → Bool
is_not_zero (pos n) = not (n == 0)
is_not_zero (negsuc n) = true

-- the truth value of a number of 64 bits
abbrev pub number_truth : Result ℤ IntegerFault → Option Bool
number_truth (Ok n) = Some (is_not_zero n)
number_truth (Err fault) = None

abbrev pub word_or_number : Option Bool → Result ℤ IntegerFault → Option Bool
word_or_number (Some b) number = Some b
word_or_number None number = number_truth number

-- the truth value of a text, where it has one
abbrev pub boolean_of : Integers → List ℕ → Option Bool
boolean_of style text = word_or_number (word_truth text) (in_64_bits (integer_of style text))
