-- What the commands on texts give is short enough for a value.
use Rattle.std.proofs.Common.{◌≡◌, ℕ, ◌≤◌, ℤ, pos, negsuc, Bool, true, false, cond, List, [], ◌∷◌, ◌++◌, length, Option, Some, None, refl, subst, arith, FitsSigned, w64}
use Rattle.std.specs.Prelude.{Result, Ok, Err, nat_le, map, reverse, unwrap_or, codes}
use Rattle.std.specs.Fmt.{signed_decimal}
use Rattle.std.specs.Char.{encode_utf8, to_ascii_lowercase, to_ascii_uppercase}
use Rattle.std.specs.Ordering.{is_eq}
use Rattle.std.specs.Str.{chars}
use Rattle.std.specs.declared.cmp.Ordering.{Ordering}
use Rattle.std.specs.declared.cmp.Ordering.TheVariants.{Less, Equal, Greater}
use Rattle.std.proofs.lemmas.Bool.Decides.{nat_tests}
use Rattle.std.proofs.lemmas.Int.{ints}
use Rattle.tcl_format.specs.Filling.{Filled, Item, filled, put_item, put_value, next_value, format_of, items}
use Rattle.tcl_format.specs.Filling.Item.{Plain, Wanted, Wrong}
use Rattle.tcl_format.specs.Pieces.{padded, piece}
use Rattle.tcl_format.specs.declared.specifier.Conversion.{Conversion}
use Rattle.tcl_format.specs.declared.specifier.Conversion.TheVariants as conversion
use Rattle.tcl_format.specs.declared.specifier.Specifier.{Specifier}
use Rattle.tcl_strings.specs.Comparing as comparing
use Rattle.tcl_glob.specs.Patterns.{is_match, letters}
use Rattle.tcl_strings.specs.Making.{mapping_word, times}
use Rattle.tcl_strings.specs.Options.{nocase_words}
use Rattle.tcl_strings.specs.Parts.{replaced, white}
use Rattle.tcl_strings.specs.Searching.{index_or, place_or}
use Rattle.tcl_strings.specs.Kinds as kinds
use Rattle.tcl_strings.specs.Subcommands.{outcome_of, outcome_or, string_of, subcommand_of}
use Rattle.tcl_strings.specs.declared.subcommand.Subcommand.{Subcommand}
use Rattle.tcl_strings.specs.declared.subcommand.Subcommand.TheVariants as sub
use Rattle.tcl_characters.specs.Mapping.{mapped}
use Rattle.tcl_characters.specs.Order.{order}
use Rattle.tcl_characters.specs.Places.{first_place, last_place}
use Rattle.tcl_characters.specs.Texts.{copies, joined, text_of, trim_start, trim_end}
use Rattle.tcl_text.specs.declared.index.Index.TheVariants.{Before, Beyond}
use Rattle.tcl_text.specs.declared.integer.Integers.{Integers}
use Rattle.tcl_value.specs.Limits.{IsWithin}
use Rattle.tcl_value.proofs.Numbers.{digits_at_most}
use Rattle.tcl_words.specs.Arguments.{one_word, one_or_two_words, two_words, two_or_three_words, three_words, three_or_four_words}
use Rattle.tcl_words.specs.Faults.{too_long}
use Rattle.tcl_words.specs.Limits.{limited, counted}
use Rattle.tcl_words.specs.Outcomes.{Outcome, next}
use Rattle.tcl_words.specs.Spans.{end, span, start}
use Rattle.tcl_words.specs.Words.{index_word, integer_word}

-- an outcome that a value can have
abbrev pub Fits : Outcome → Type 0
Fits (Ok text) = IsWithin text
Fits (Err fault) = Unit {0}

-- what is read of an outcome
pub fits_at : (outcome : Outcome) (text : List ℕ) → Fits outcome → outcome ≡ Ok text → IsWithin text
fits_at (Ok t) text f e = subst IsWithin (cc) f
fits_at (Err x) text f e = let clash : ◌≡◌ {A = Outcome} (Err x) (Ok text) = e in cc

next_fits : {X : Type 0} (r : Result X (List ℕ)) (k : X → Outcome) → ((x : X) → Fits (k x)) → Fits (next r k)
next_fits (Ok x) k f = f x
next_fits (Err e) k f = tt

limited_fits : (text : List ℕ) → Fits (limited text)
limited_fits text = by (nat_le (length text) 16777216) refl
  where
    by : (b : Bool) → nat_le (length text) 16777216 ≡ b → Fits (cond b (Ok text) (Err too_long))
    by true e = grind (arith, nat_tests)
    by false e = tt

number_short : (z : ℤ) → FitsSigned w64 z → IsWithin (signed_decimal z)
number_short z f = let n = digits_at_most z f in omega arith

small : (n : ℕ) → n ≤ 16777216 → FitsSigned w64 (pos n)
small n h = omega (arith, ints)

pub counted_fits : (n : ℕ) → Fits (counted n)
counted_fits n = by (nat_le n 16777216) refl
  where
    by : (b : Bool) → nat_le n 16777216 ≡ b → Fits (cond b (Ok (signed_decimal (pos n))) (Err too_long))
    by true e = number_short (pos n) (small n (grind (arith, nat_tests)))
    by false e = tt

truth_fits : (b : Bool) → Fits (Ok (signed_decimal (comparing.truth b)))
truth_fits true = number_short (pos 1) (small 1 (omega arith))
truth_fits false = number_short (pos 0) (small 0 (omega arith))

kind_fits : (b : Bool) → Fits (Ok (signed_decimal (kinds.truth b)))
kind_fits true = number_short (pos 1) (small 1 (omega arith))
kind_fits false = number_short (pos 0) (small 0 (omega arith))

below : FitsSigned w64 (negsuc 0)
below = omega (arith, ints)

sign_fits : (o : Ordering) → Fits (Ok (signed_decimal (comparing.sign o)))
sign_fits Less = number_short (negsuc 0) below
sign_fits Equal = number_short (pos 0) (small 0 (omega arith))
sign_fits Greater = number_short (pos 1) (small 1 (omega arith))

place_fits : (o : Option ℕ) → Fits (place_or o)
place_fits None = number_short (negsuc 0) below
place_fits (Some k) = counted_fits k

-- ## `string`

outcome_fits : (style : Integers) (s : Subcommand) (words : List (List ℕ)) → Fits (outcome_of style s words)
outcome_fits style sub.Length words = next_fits (one_word (codes "string length s") words) (λ s. counted (length (chars s))) (λ s. counted_fits (length (chars s)))
outcome_fits style sub.Index words = next_fits (two_words (codes "string index s i") words) (λ p. next (index_word style (length (chars p.0)) p.1) (λ at. limited (text_of (span at at (chars p.0))))) (λ p.
    next_fits (index_word style (length (chars p.0)) p.1) (λ at. limited (text_of (span at at (chars p.0)))) (λ at. limited_fits (text_of (span at at (chars p.0)))))
outcome_fits style sub.Range words = next_fits (three_words (codes "string range s first last") words) (λ p. next (index_word style (length (chars p.0)) p.1) (λ first. next (index_word style (length (chars p.0)) p.2) (λ last. limited (text_of (span first last (chars p.0)))))) (λ p.
    next_fits (index_word style (length (chars p.0)) p.1) (λ first. next (index_word style (length (chars p.0)) p.2) (λ last. limited (text_of (span first last (chars p.0))))) (λ first.
    next_fits (index_word style (length (chars p.0)) p.2) (λ last. limited (text_of (span first last (chars p.0)))) (λ last. limited_fits (text_of (span first last (chars p.0))))))
outcome_fits style sub.Equal words = next_fits (nocase_words (codes "string equal ?-nocase? a b") words) (λ p. Ok (signed_decimal (comparing.truth (is_eq (order (letters p.0 p.1) (letters p.0 p.2)))))) (λ p. truth_fits (is_eq (order (letters p.0 p.1) (letters p.0 p.2))))
outcome_fits style sub.Compare words = next_fits (nocase_words (codes "string compare ?-nocase? a b") words) (λ p. Ok (signed_decimal (comparing.sign (order (letters p.0 p.1) (letters p.0 p.2))))) (λ p. sign_fits (order (letters p.0 p.1) (letters p.0 p.2)))
outcome_fits style sub.Match words = next_fits (nocase_words (codes "string match ?-nocase? pattern s") words) (λ p. Ok (signed_decimal (comparing.truth (is_match p.0 p.1 p.2)))) (λ p. truth_fits (is_match p.0 p.1 p.2))
outcome_fits style sub.Map words = next_fits (nocase_words (codes "string map ?-nocase? mapping s") words) (λ p. next (mapping_word p.1) (λ mapping. limited (mapped p.0 mapping (chars p.2) 0))) (λ p.
    next_fits (mapping_word p.1) (λ mapping. limited (mapped p.0 mapping (chars p.2) 0)) (λ mapping. limited_fits (mapped p.0 mapping (chars p.2) 0)))
outcome_fits style sub.First words = next_fits (two_or_three_words (codes "string first needle s ?start?") words) (λ p. next (index_or style (length (chars p.1)) Before p.2) (λ from. place_or (first_place (chars p.0) (chars p.1) (start (length (chars p.1)) from)))) (λ p.
    next_fits (index_or style (length (chars p.1)) Before p.2) (λ from. place_or (first_place (chars p.0) (chars p.1) (start (length (chars p.1)) from))) (λ from. place_fits (first_place (chars p.0) (chars p.1) (start (length (chars p.1)) from))))
outcome_fits style sub.Last words = next_fits (two_or_three_words (codes "string last needle s ?last?") words) (λ p. next (index_or style (length (chars p.1)) Beyond p.2) (λ last. place_or (last_place (chars p.0) (chars p.1) (end (length (chars p.1)) last)))) (λ p.
    next_fits (index_or style (length (chars p.1)) Beyond p.2) (λ last. place_or (last_place (chars p.0) (chars p.1) (end (length (chars p.1)) last))) (λ last. place_fits (last_place (chars p.0) (chars p.1) (end (length (chars p.1)) last))))
outcome_fits style sub.Repeat words = next_fits (two_words (codes "string repeat s count") words) (λ p. next (integer_word style p.1) (λ count. limited (copies (times count) p.0))) (λ p.
    next_fits (integer_word style p.1) (λ count. limited (copies (times count) p.0)) (λ count. limited_fits (copies (times count) p.0)))
outcome_fits style sub.Reverse words = next_fits (one_word (codes "string reverse s") words) (λ s. limited (text_of (reverse (chars s)))) (λ s. limited_fits (text_of (reverse (chars s))))
outcome_fits style sub.Replace words = next_fits (three_or_four_words (codes "string replace s first last ?new?") words) (λ p. next (index_word style (length (chars p.0)) p.1) (λ first. next (index_word style (length (chars p.0)) p.2) (λ last. limited (replaced first last (unwrap_or p.3 []) p.0)))) (λ p.
    next_fits (index_word style (length (chars p.0)) p.1) (λ first. next (index_word style (length (chars p.0)) p.2) (λ last. limited (replaced first last (unwrap_or p.3 []) p.0))) (λ first.
    next_fits (index_word style (length (chars p.0)) p.2) (λ last. limited (replaced first last (unwrap_or p.3 []) p.0)) (λ last. limited_fits (replaced first last (unwrap_or p.3 []) p.0))))
outcome_fits style sub.ToLower words = next_fits (one_word (codes "string tolower s") words) (λ s. limited (text_of (map to_ascii_lowercase (chars s)))) (λ s. limited_fits (text_of (map to_ascii_lowercase (chars s))))
outcome_fits style sub.ToUpper words = next_fits (one_word (codes "string toupper s") words) (λ s. limited (text_of (map to_ascii_uppercase (chars s)))) (λ s. limited_fits (text_of (map to_ascii_uppercase (chars s))))
outcome_fits style sub.Trim words = next_fits (one_or_two_words (codes "string trim s ?chars?") words) (λ p. limited (text_of (trim_end (chars (unwrap_or p.1 white)) (trim_start (chars (unwrap_or p.1 white)) (chars p.0))))) (λ p. limited_fits (text_of (trim_end (chars (unwrap_or p.1 white)) (trim_start (chars (unwrap_or p.1 white)) (chars p.0)))))
outcome_fits style sub.TrimLeft words = next_fits (one_or_two_words (codes "string trimleft s ?chars?") words) (λ p. limited (text_of (trim_start (chars (unwrap_or p.1 white)) (chars p.0)))) (λ p. limited_fits (text_of (trim_start (chars (unwrap_or p.1 white)) (chars p.0))))
outcome_fits style sub.TrimRight words = next_fits (one_or_two_words (codes "string trimright s ?chars?") words) (λ p. limited (text_of (trim_end (chars (unwrap_or p.1 white)) (chars p.0)))) (λ p. limited_fits (text_of (trim_end (chars (unwrap_or p.1 white)) (chars p.0))))
outcome_fits style sub.Cat words = limited_fits (joined words)
outcome_fits style sub.Is words = next_fits (kinds.class_words words) (λ p. next (kinds.kind_or p.0 (kinds.kind_of p.0)) (λ kind. next (kinds.strict_word p.1) (λ strict. Ok (signed_decimal (kinds.truth (kinds.is_kind style strict kind p.2)))))) (λ p.
    next_fits (kinds.kind_or p.0 (kinds.kind_of p.0)) (λ kind. next (kinds.strict_word p.1) (λ strict. Ok (signed_decimal (kinds.truth (kinds.is_kind style strict kind p.2))))) (λ kind.
    next_fits (kinds.strict_word p.1) (λ strict. Ok (signed_decimal (kinds.truth (kinds.is_kind style strict kind p.2)))) (λ strict. kind_fits (kinds.is_kind style strict kind p.2))))

or_fits : (style : Integers) (name : List ℕ) (o : Option Subcommand) (words : List (List ℕ)) → Fits (outcome_or style name o words)
or_fits style name None words = tt
or_fits style name (Some s) words = outcome_fits style s words

pub string_fits : (style : Integers) (words : List (List ℕ)) → Fits (string_of style words)
string_fits style [] = tt
string_fits style (name ∷ words) = or_fits style name (subcommand_of name) words

-- ## `format`

abbrev FilledFits : Result Filled (List ℕ) → Type 0
FilledFits (Ok p) = IsWithin p.0
FilledFits (Err fault) = Unit {0}

with_values : (outcome : Outcome) (values : List (List ℕ)) → Fits outcome → FilledFits (next outcome (λ more. Ok (more, values)))
with_values (Ok text) values f = f
with_values (Err fault) values f = tt

next_filled : {X : Type 0} (r : Result X (List ℕ)) (k : X → Result Filled (List ℕ)) → ((x : X) → FilledFits (k x)) → FilledFits (next r k)
next_filled (Ok x) k f = f x
next_filled (Err e) k f = tt

value_filled : (style : Integers) (made : List ℕ) (s : Specifier) (cs : List ℕ) (c : Conversion) (values : List (List ℕ)) → FilledFits (put_value style made s cs c values)
value_filled style made s cs conversion.Percent values = with_values (limited (made ++ padded s false [] (37 ∷ []))) values (limited_fits (made ++ padded s false [] (37 ∷ [])))
value_filled style made s cs (conversion.Value kind) values =
    next_filled (next_value values) (λ v. next (next (piece style s cs kind v.0) (λ text. limited (made ++ text))) (λ more. Ok (more, v.1))) (λ v.
    with_values (next (piece style s cs kind v.0) (λ text. limited (made ++ text))) v.1 (next_fits (piece style s cs kind v.0) (λ text. limited (made ++ text)) (λ text. limited_fits (made ++ text))))

item_filled : (style : Integers) (made : List ℕ) (item : Item) (values : List (List ℕ)) → FilledFits (put_item style made item values)
item_filled style made (Plain c) values = with_values (limited (made ++ encode_utf8 c)) values (limited_fits (made ++ encode_utf8 c))
item_filled style made (Wanted s cs) values = value_filled style made s cs s.conversion values
item_filled style made (Wrong cs) values = tt

filled_then : (r : Result Filled (List ℕ)) (k : Filled → Outcome) → FilledFits r → ((p : Filled) → IsWithin p.0 → Fits (k p)) → Fits (next r k)
filled_then (Ok p) k f g = g p f
filled_then (Err e) k f g = tt

filled_fits : (style : Integers) (made : List ℕ) (is : List Item) (values : List (List ℕ)) → IsWithin made → Fits (filled style made is values)
filled_fits style made [] values h = h
filled_fits style made (item ∷ rest) values h = filled_then (put_item style made item values) (λ p. filled style p.0 rest p.1) (item_filled style made item values) (λ p g. filled_fits style p.0 rest p.1 g)

pub format_fits : (style : Integers) (words : List (List ℕ)) → Fits (format_of style words)
format_fits style [] = tt
format_fits style (text ∷ values) = filled_fits style [] (items (chars text) 0) values (omega arith)
