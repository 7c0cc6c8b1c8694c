-- The subcommands equal, compare, match.
use Rattle.std.specs.Prelude.{ℕ, ℤ, pos, negsuc, Bool, true, false, List, Ok, codes}
use Rattle.std.specs.declared.cmp.Ordering.{Ordering}
use Rattle.std.specs.declared.cmp.Ordering.TheVariants.{Less, Equal, Greater}
use Rattle.std.specs.Ordering.{is_eq}
use Rattle.std.specs.Fmt.{signed_decimal}
use Rattle.tcl_words.specs.Outcomes.{Outcome, next}
use Rattle.tcl_glob.specs.Patterns.{is_match, letters}
use Rattle.tcl_characters.specs.Order.{order}
use Rattle.tcl_strings.specs.Options.{nocase_words}

-- 1 of what holds, 0 of what doesn't
abbrev pub truth : Bool → ℤ
truth true = pos 1
truth false = pos 0

-- -1, 0 or 1
abbrev pub sign : Ordering → ℤ
sign Less = negsuc 0
sign Equal = pos 0
sign Greater = pos 1

abbrev pub equal_of : List (List ℕ) → Outcome
equal_of words = next (nocase_words (codes "string equal ?-nocase? a b") words)
    (λ p. Ok (signed_decimal (truth (is_eq (order (letters p.0 p.1) (letters p.0 p.2))))))

abbrev pub compare_of : List (List ℕ) → Outcome
compare_of words = next (nocase_words (codes "string compare ?-nocase? a b") words)
    (λ p. Ok (signed_decimal (sign (order (letters p.0 p.1) (letters p.0 p.2)))))

abbrev pub match_of : List (List ℕ) → Outcome
match_of words = next (nocase_words (codes "string match ?-nocase? pattern s") words)
    (λ p. Ok (signed_decimal (truth (is_match p.0 p.1 p.2))))
