-- Parts of texts: the subcommands length, index, range, replace, reverse, trim and its kin.
use Rattle.std.specs.Prelude.{ℕ, List, [], ◌∷◌, ◌++◌, length, reverse, codes, unwrap_or}
use Rattle.std.specs.Str.{chars}
use Rattle.tcl_text.specs.declared.integer.Integers.{Integers}
use Rattle.tcl_text.specs.declared.index.Index.{Index}
use Rattle.tcl_words.specs.Outcomes.{Outcome, next}
use Rattle.tcl_words.specs.Arguments.{one_word, two_words, three_words, one_or_two_words}
use Rattle.tcl_words.specs.Arguments.{three_or_four_words}
use Rattle.tcl_words.specs.Words.{index_word}
use Rattle.tcl_words.specs.Limits.{limited, counted}
use Rattle.tcl_words.specs.Spans.{before, behind, span}
use Rattle.tcl_characters.specs.Texts.{text_of, trim_start, trim_end}

-- how many characters
abbrev pub length_of : List (List ℕ) → Outcome
length_of words = next (one_word (codes "string length s") words) (λ s. counted (length (chars s)))

-- the character at an index; nothing where there is none
abbrev pub index_of : Integers → List (List ℕ) → Outcome
index_of style words =
    next (two_words (codes "string index s i") words) (λ p.
    next (index_word style (length (chars p.0)) p.1) (λ at.
    limited (text_of (span at at (chars p.0)))))

-- the characters from one index to another
abbrev pub range_of : Integers → List (List ℕ) → Outcome
range_of style words =
    next (three_words (codes "string range s first last") words) (λ p.
    next (index_word style (length (chars p.0)) p.1) (λ first.
    next (index_word style (length (chars p.0)) p.2) (λ last.
    limited (text_of (span first last (chars p.0))))))

-- one of two texts: the first where there are no characters
abbrev pub where_none : List ℕ → List ℕ → List ℕ → List ℕ
where_none [] whole changed = whole
where_none (c ∷ cs) whole changed = changed

-- Text in the place of the characters between two indexes; where there are none between them
-- nothing changes.
abbrev pub replaced : Index → Index → List ℕ → List ℕ → List ℕ
replaced first last new text =
    where_none (span first last (chars text)) text
    (text_of (before first (chars text)) ++ new ++ text_of (behind last (chars text)))

abbrev pub replace_of : Integers → List (List ℕ) → Outcome
replace_of style words =
    next (three_or_four_words (codes "string replace s first last ?new?") words) (λ p.
    next (index_word style (length (chars p.0)) p.1) (λ first.
    next (index_word style (length (chars p.0)) p.2) (λ last.
    limited (replaced first last (unwrap_or p.3 []) p.0))))

-- the characters from the last to the first
abbrev pub reverse_of : List (List ℕ) → Outcome
reverse_of words = next (one_word (codes "string reverse s") words)
    (λ s. limited (text_of (reverse (chars s))))

-- the characters that are trimmed where none are named: white space and U+0000
abbrev pub white : List ℕ
white = 32 ∷ 9 ∷ 10 ∷ 11 ∷ 12 ∷ 13 ∷ 0 ∷ []

abbrev pub trim_left_of : List (List ℕ) → Outcome
trim_left_of words =
    next (one_or_two_words (codes "string trimleft s ?chars?") words) (λ p.
    limited (text_of (trim_start (chars (unwrap_or p.1 white)) (chars p.0))))

abbrev pub trim_right_of : List (List ℕ) → Outcome
trim_right_of words =
    next (one_or_two_words (codes "string trimright s ?chars?") words) (λ p.
    limited (text_of (trim_end (chars (unwrap_or p.1 white)) (chars p.0))))

abbrev pub trim_of : List (List ℕ) → Outcome
trim_of words =
    next (one_or_two_words (codes "string trim s ?chars?") words) (λ p.
    limited (text_of (trim_end (chars (unwrap_or p.1 white))
    (trim_start (chars (unwrap_or p.1 white)) (chars p.0)))))
