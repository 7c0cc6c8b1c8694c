-- The words of lsearch: options, and then a list and a pattern.
use Rattle.std.specs.Prelude.{ℕ, true, false, if◌then◌else◌, List, [], ◌∷◌, Ok, Err, codes}
use Rattle.std.specs.declared.result.Result.{Result}
use Rattle.std.specs.Str.{bytes_eq}
use Rattle.tcl_words.specs.Outcomes.{next}
use Rattle.tcl_words.specs.Faults.{wrong_arguments, bad_option}
use Rattle.tcl_lists.specs.Lists.{Texts}
use Rattle.tcl_lists.specs.declared.search_options.Search.{Search}

-- a search without options: for the first place at which an element fits the pattern
abbrev pub plain : Search
plain = record { exact = false; all = false; inline = false; negated = false }

-- a search with one more option, or 221
abbrev pub with_option : Search → List ℕ → Result Search (List ℕ)
with_option s word =
    if bytes_eq word (codes "-exact") then Ok (record s { exact = true })
    else (if bytes_eq word (codes "-glob") then Ok (record s { exact = false })
    else (if bytes_eq word (codes "-all") then Ok (record s { all = true })
    else (if bytes_eq word (codes "-inline") then Ok (record s { inline = true })
    else (if bytes_eq word (codes "-not") then Ok (record s { negated = true })
    else Err (bad_option word)))))

-- a search with the options of words, from the left: of two that exclude one another the later is
-- taken
abbrev pub with_options : Search → Texts → Result Search (List ℕ)
with_options s [] = Ok s
with_options s (w ∷ words) = next (with_option s w) (λ t. with_options t words)

-- the last two words and those before them, or 241
abbrev pub all_and_two : List ℕ → Texts → Result (Texts × List ℕ × List ℕ) (List ℕ)
all_and_two form [] = Err (wrong_arguments form)
all_and_two form (a ∷ []) = Err (wrong_arguments form)
all_and_two form (a ∷ b ∷ []) = Ok ([], a, b)
all_and_two form (a ∷ b ∷ c ∷ words) = next (all_and_two form (b ∷ c ∷ words))
    (λ p. Ok (a ∷ p.0, p.1, p.2))
