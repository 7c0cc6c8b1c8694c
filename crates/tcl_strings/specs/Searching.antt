-- The subcommands first and last.
use Rattle.std.specs.Prelude.{ℕ, negsuc, List, length, Ok, codes}
use Rattle.std.specs.declared.result.Result.{Result}
use Rattle.std.specs.declared.option.Option.{Option}
use Rattle.std.specs.declared.option.Option.TheVariants.{None, Some}
use Rattle.std.specs.Fmt.{signed_decimal}
use Rattle.std.specs.Str.{chars}
use Rattle.tcl_text.specs.declared.integer.Integers.{Integers}
use Rattle.tcl_text.specs.declared.index.Index.{Index}
use Rattle.tcl_text.specs.declared.index.Index.TheVariants.{Before, Beyond}
use Rattle.tcl_words.specs.Outcomes.{Outcome, next}
use Rattle.tcl_words.specs.Arguments.{two_or_three_words}
use Rattle.tcl_words.specs.Words.{index_word}
use Rattle.tcl_words.specs.Limits.{counted}
use Rattle.tcl_words.specs.Spans.{start, end}
use Rattle.tcl_characters.specs.Places.{first_place, last_place}

-- a place, or -1
abbrev pub place_or : Option ℕ → Outcome
place_or None = Ok (signed_decimal (negsuc 0))
place_or (Some k) = counted k

-- an index that may be left out
abbrev pub index_or : Integers → ℕ → Index → Option (List ℕ) → Result Index (List ℕ)
index_or style count left_out None = Ok left_out
index_or style count left_out (Some word) = index_word style count word

abbrev pub first_of : Integers → List (List ℕ) → Outcome
first_of style words =
    next (two_or_three_words (codes "string first needle s ?start?") words) (λ p.
    next (index_or style (length (chars p.1)) Before p.2) (λ from.
    place_or (first_place (chars p.0) (chars p.1) (start (length (chars p.1)) from))))

abbrev pub last_of : Integers → List (List ℕ) → Outcome
last_of style words =
    next (two_or_three_words (codes "string last needle s ?last?") words) (λ p.
    next (index_or style (length (chars p.1)) Beyond p.2) (λ last.
    place_or (last_place (chars p.0) (chars p.1) (end (length (chars p.1)) last))))
