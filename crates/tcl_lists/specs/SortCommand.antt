-- The command lsort by its words.
use Rattle.std.specs.Prelude.{ℕ, Bool, true, false, if◌then◌else◌, List, [], ◌∷◌, Ok, Err, codes}
use Rattle.std.specs.declared.result.Result.{Result}
use Rattle.std.specs.Str.{bytes_eq}
use Rattle.tcl_text.specs.declared.integer.Integers.{Integers}
use Rattle.tcl_words.specs.Outcomes.{Outcome, next}
use Rattle.tcl_words.specs.Words.{list_word}
use Rattle.tcl_words.specs.Faults.{bad_option}
use Rattle.tcl_lists.specs.Lists.{Texts, all_and_last}
use Rattle.tcl_lists.specs.Sorting.{After, IsSortedList, IsSortedNumbers}
use Rattle.tcl_lists.specs.declared.sort_options.Sorting.{Sorting}

-- without options: by the texts, increasing, all elements
abbrev pub plain : Sorting
plain = record { by_number = false; decreasing = false; unique = false }

-- with one more option, or 221
abbrev pub with_option : Sorting → List ℕ → Result Sorting (List ℕ)
with_option s word =
    if bytes_eq word (codes "-ascii") then Ok (record s { by_number = false })
    else (if bytes_eq word (codes "-integer") then Ok (record s { by_number = true })
    else (if bytes_eq word (codes "-increasing") then Ok (record s { decreasing = false })
    else (if bytes_eq word (codes "-decreasing") then Ok (record s { decreasing = true })
    else (if bytes_eq word (codes "-unique") then Ok (record s { unique = true })
    else Err (bad_option word)))))

-- with the options of words, from the left: of two that exclude one another the later is taken
abbrev pub with_options : Sorting → Texts → Result Sorting (List ℕ)
with_options s [] = Ok s
with_options s (w ∷ words) = next (with_option s w) (λ t. with_options t words)

-- a list in order, by its texts or by its integers
abbrev pub IsSortedAs : Integers → Sorting → Bool → Texts → Outcome → Type 0
IsSortedAs style s false l = IsSortedList l s.decreasing s.unique
IsSortedAs style s true l = IsSortedNumbers style l s.decreasing s.unique

-- the list of a word in order
abbrev pub IsSortedWord : Integers → List ℕ → Sorting → Outcome → Type 0
IsSortedWord style word s = After (list_word word) (IsSortedAs style s s.by_number)

-- the list of the last word in the order that the words before it name
abbrev pub IsSortedBehind : Integers → Texts × List ℕ → Outcome → Type 0
IsSortedBehind style p = After (with_options plain p.0) (IsSortedWord style p.1)

-- what the command comes to: the words are counted, then the options read, then the list, then its
-- elements
abbrev pub IsLsort : Integers → Texts → Outcome → Type 0
IsLsort style words = After (all_and_last (codes "lsort ?option ...? list") words)
    (IsSortedBehind style)
