-- Texts of several: the commands join and concat.
use Rattle.std.specs.Prelude.{ℕ, List, [], ◌∷◌, ◌++◌, codes, unwrap_or}
use Rattle.std.specs.List.{flat_map}
use Rattle.std.specs.Str.{chars}
use Rattle.tcl_words.specs.Outcomes.{Outcome, next}
use Rattle.tcl_words.specs.Arguments.{one_or_two_words}
use Rattle.tcl_words.specs.Words.{list_word}
use Rattle.tcl_words.specs.Limits.{limited}
use Rattle.tcl_characters.specs.Texts.{text_of, trim_start, trim_end}

-- texts in order, with a separator between any two
abbrev pub joined : List ℕ → List (List ℕ) → List ℕ
joined separator [] = []
joined separator (x ∷ l) = x ++ flat_map (λ y. separator ++ y) l

abbrev pub join_of : List (List ℕ) → Outcome
join_of words =
    next (one_or_two_words (codes "join list ?joinString?") words) (λ p.
    next (list_word p.0) (λ l. limited (joined (unwrap_or p.1 (codes " ")) l)))

-- the six characters of white space
abbrev pub white : List ℕ
white = 32 ∷ 9 ∷ 10 ∷ 11 ∷ 12 ∷ 13 ∷ []

-- a text without white space at its ends
abbrev pub trimmed : List ℕ → List ℕ
trimmed text = text_of (trim_end (chars white) (trim_start (chars white) (chars text)))

-- a text before others, if there is anything of it
abbrev pub with_part : List ℕ → List (List ℕ) → List (List ℕ)
with_part [] l = l
with_part (b ∷ text) l = (b ∷ text) ∷ l

-- the words without white space at their ends, those of which something is left
abbrev pub filled : List (List ℕ) → List (List ℕ)
filled [] = []
filled (w ∷ words) = with_part (trimmed w) (filled words)

-- these with a space between any two
abbrev pub concat_of : List (List ℕ) → Outcome
concat_of words = limited (joined (codes " ") (filled words))

-- what stands between a text and another that is added to it: a space, if there is anything of the
-- first
abbrev pub gap : List ℕ → List ℕ
gap [] = []
gap (b ∷ made) = codes " "

-- others added to a text, with a space between any two
abbrev pub onto : List ℕ → List (List ℕ) → List ℕ
onto [] l = joined (codes " ") l
onto (b ∷ made) l = (b ∷ made) ++ flat_map (λ y. codes " " ++ y) l
