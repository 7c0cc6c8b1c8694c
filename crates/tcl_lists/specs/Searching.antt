-- Searching a list: the command lsearch.
use Rattle.std.specs.Prelude.{ℕ, ◌+◌, pos, negsuc, Bool, false, not, cond, if◌then◌else◌, List, []}
use Rattle.std.specs.Prelude.{◌∷◌, map, filter, Ok, codes}
use Rattle.std.specs.Str.{bytes_eq}
use Rattle.std.specs.Fmt.{signed_decimal}
use Rattle.tcl_glob.specs.Patterns.{is_match}
use Rattle.tcl_words.specs.Outcomes.{Outcome, next}
use Rattle.tcl_words.specs.Words.{list_word}
use Rattle.tcl_lists.specs.Lists.{Texts, list_value}
use Rattle.tcl_lists.specs.declared.search_options.Search.{Search}
use Rattle.tcl_lists.specs.SearchOptions.{plain, with_options, all_and_two}

-- whether a text is the pattern, or matches it
abbrev pub is_like : Bool → List ℕ → List ℕ → Bool
is_like exact pattern text = cond exact (bytes_eq text pattern) (is_match false pattern text)

-- whether a search takes an element
abbrev pub takes : Search → List ℕ → List ℕ → Bool
takes s pattern text = cond s.negated (not (is_like s.exact pattern text))
    (is_like s.exact pattern text)

-- elements with the places at which they stand, the first at this one
abbrev pub placed : ℕ → Texts → List (ℕ × List ℕ)
placed n [] = []
placed n (x ∷ l) = (n, x) ∷ placed (n + 1) l

-- those that a search takes
abbrev pub taken : Search → List ℕ → List (ℕ × List ℕ) → List (ℕ × List ℕ)
taken s pattern es = filter (λ e. takes s pattern e.1) es

-- what is told of one: the element, or its place
abbrev pub told : Bool → ℕ × List ℕ → List ℕ
told inline e = cond inline e.1 (signed_decimal (pos e.0))

-- what is told where there is none: nothing, or -1
abbrev pub nothing_told : Bool → List ℕ
nothing_told inline = cond inline [] (signed_decimal (negsuc 0))

-- what is told of the first
abbrev pub first_told : Bool → List (ℕ × List ℕ) → List ℕ
first_told inline [] = nothing_told inline
first_told inline (e ∷ es) = told inline e

-- what a search of a list finds
abbrev pub found : Search → List ℕ → Texts → Outcome
found s pattern l =
    if s.all then list_value (map (told s.inline) (taken s pattern (placed 0 l)))
    else Ok (first_told s.inline (taken s pattern (placed 0 l)))

abbrev pub lsearch_of : Texts → Outcome
lsearch_of words =
    next (all_and_two (codes "lsearch ?option ...? list pattern") words) (λ p.
    next (with_options plain p.0) (λ s.
    next (list_word p.1) (λ l. found s p.2 l)))
