-- The parts of a text: the command split.
use Rattle.std.specs.Prelude.{ℕ, Bool, true, false, List, [], ◌∷◌, map, codes, unwrap_or}
use Rattle.std.specs.Str.{chars}
use Rattle.tcl_words.specs.Outcomes.{Outcome, next}
use Rattle.tcl_words.specs.Arguments.{one_or_two_words}
use Rattle.tcl_characters.specs.Texts.{text_of, is_among}
use Rattle.tcl_lists.specs.Lists.{Texts, list_value}

-- the first part, and those behind it
abbrev pub Parts : Type 0
Parts = List ℕ × List (List ℕ)

-- what a character makes of the parts behind it: a separator ends an empty part, any other
-- character is put before the first
abbrev pub before_parts : Bool → ℕ → Parts → Parts
before_parts true c p = ([], p.0 ∷ p.1)
before_parts false c p = (c ∷ p.0, p.1)

-- the parts of characters between those of a set
abbrev pub parts : List ℕ → List ℕ → Parts
parts set [] = ([], [])
parts set (c ∷ cs) = before_parts (is_among set c) c (parts set cs)

-- parts as texts
abbrev pub part_texts : Parts → Texts
part_texts p = text_of p.0 ∷ map text_of p.1

abbrev pub letter_text : ℕ → List ℕ
letter_text c = text_of (c ∷ [])

-- The parts of a text between characters of a set; each character where the set is empty. An empty
-- text has none.
abbrev pub split_at : List ℕ → List ℕ → Texts
split_at set [] = []
split_at [] (c ∷ cs) = map letter_text (c ∷ cs)
split_at (s ∷ set) (c ∷ cs) = part_texts (parts (s ∷ set) (c ∷ cs))

-- space, tab, newline, carriage return
abbrev pub separators : List ℕ
separators = 32 ∷ 9 ∷ 10 ∷ 13 ∷ []

abbrev pub split_of : List (List ℕ) → Outcome
split_of words =
    next (one_or_two_words (codes "split string ?splitChars?") words) (λ p.
    list_value (split_at (chars (unwrap_or p.1 separators)) (chars p.0)))
