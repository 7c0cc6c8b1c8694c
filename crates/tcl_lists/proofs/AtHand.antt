-- An element at a place that a number names.
use Rattle.std.proofs.Common.{arith, ap, sym, ◌∙◌, ◌≡◌, ℕ, ◌<◌, ℤ, pos, ◌-ℤ◌, Bool, true, false, cond, List, [], ◌∷◌, ◌++◌, length, set, Option, Some, None, Ok, Err}
use Rattle.std.specs.Prelude.{codes, nat_le, option_map, if◌then◌else◌}
use Rattle.std.specs.Option.{option_or}
use Rattle.std.specs.Bool.{OnTrue}
use Rattle.std.specs.Str.{bytes_eq}
use Rattle.std.specs.declared.result.Result.{Result}
use Rattle.std.proofs.lemmas.Bool.Decides.{nat_tests}
use Rattle.tcl_text.specs.declared.integer.Integers.{Integers}
use Rattle.tcl_text.specs.declared.integer.IntegerFault.{IntegerFault}
use Rattle.tcl_text.specs.declared.integer.IntegerFault.TheVariants.{TooLarge}
use Rattle.tcl_text.specs.declared.index.Index.TheVariants.{At}
use Rattle.tcl_text.specs.declared.list.ListFault.{ListFault}
use Rattle.tcl_text.specs.Numbers.{in_64_bits, integer_of, fits_64}
use Rattle.tcl_text.specs.Indexes.{only_inside, sum_around, last_operator, index_of, place}
use Rattle.tcl_value.specs.Limits.{IsWithin}
use Rattle.tcl_value.specs.Writing.{write}
use Rattle.tcl_value.specs.Reading.{list_of, int_of}
use Rattle.tcl_value.specs.Changes.{AtList}
use Rattle.tcl_words.specs.Outcomes.{next as after}
use Rattle.tcl_words.specs.Words.{list_or as word_or}
use Rattle.tcl_words.proofs.WordLemmas.{limited_within}
use Rattle.tcl_lists.specs.Lists.{indexes_of}
use Rattle.tcl_lists.specs.Nested.{Texts, next, list_or, place_within, place_found, place_or, place_in, with_element, element_changed}
use Rattle.tcl_lists.specs.Changing.{nested_outcome, path_or, path_of, lset_of}
use Rattle.tcl_lists.proofs.Placed.{placed_inside}

fits : (t : Bool) (m n : ℤ) → ◌≡◌ {A = Result ℤ IntegerFault} (cond t (Ok m) (Err TooLarge)) (Ok n) → cond t (Some m) None ≡ Some n
fits true m n e = cc
fits false m n e = absurd (cc)

number_inside : (o : Option ℤ) (n : ℤ) → in_64_bits o ≡ Ok n → only_inside o ≡ Some n
number_inside None n e = absurd (cc)
number_inside (Some m) n e = fits (fits_64 m) m n e

-- the index that is a number, whatever `end` is
names_number : (style : Integers) (end : ℤ) (text : List ℕ) (n : ℤ) → int_of style text ≡ Ok n → index_of style end text ≡ Some n
names_number style end text n e = ap (λ o. option_or o (if bytes_eq text (codes "end") then Some end else sum_around style end text (last_operator text))) (number_inside (integer_of style text) n e)

within : (k count : ℕ) → k < count → nat_le k count ≡ true
within k count h = grind (arith, nat_tests)

found_inside : (count k : ℕ) → k < count → place_found (place_within count (At k)) ≡ Ok k
found_inside count k h = ap (λ t. place_found (cond t (Some k) None)) (within k count h)

-- the place that it names, where it is that of an element
pub named_inside : (style : Integers) (l : Texts) (index : List ℕ) (n : ℤ) (k : ℕ) → int_of style index ≡ Ok n → At k ≡ place n → k < length l → place_in style l index ≡ Ok k
named_inside style l index n k e at h =
    ap (λ o. place_or index (length l) (option_map place o)) (names_number style (pos (length l) -ℤ pos 1) index n e)
    ∙ ap (λ p. place_found (place_within (length l) p)) (sym at)
    ∙ found_inside (length l) k h

put_there : (style : Integers) (read : Result Texts ListFault) (index new now : List ℕ) (k : ℕ) → ((l : Texts) → k < length l → place_in style l index ≡ Ok k) → AtList read (λ list. (k < length list) × (now ≡ write (set list k new)) × IsWithin (write (set list k new))) → nested_outcome (next (list_or read) (λ l. next (place_in style l index) (λ n. Ok (write (with_element n new l))))) ≡ Ok now
put_there style (Ok l) index new now k names h =
    ap (λ z. nested_outcome (next z (λ n. Ok (write (with_element n new l))))) (names l h.0)
    ∙ ap (λ z. nested_outcome (Ok (write z))) (placed_inside k new l h.0)
    ∙ limited_within (write (set l k new)) h.2
    ∙ ap (λ z. Ok z) (sym h.1)
put_there style (Err fault) index new now k names h = absurd h

-- the indexes of a word that is one
lone_path : (old index : List ℕ) → list_of index ≡ Ok (index ∷ []) → path_of old (index ∷ []) ≡ Ok (index ∷ [])
lone_path old index e = ap (λ r. path_or old (after (word_or r) (λ is. after (indexes_of []) (λ rest. Ok (is ++ rest))))) e

pub lone_set : (style : Integers) (old index new now : List ℕ) (n : ℤ) (k : ℕ) → list_of index ≡ Ok (index ∷ []) → int_of style index ≡ Ok n → At k ≡ place n → AtList (list_of old) (λ list. (k < length list) × (now ≡ write (set list k new)) × IsWithin (write (set list k new))) → lset_of style old (index ∷ []) new ≡ Ok now
lone_set style old index new now n k lone e at h =
    ap (λ p. after p (λ path. nested_outcome (element_changed style path new old))) (lone_path old index lone)
    ∙ put_there style (list_of old) index new now k (λ l inside. named_inside style l index n k e at inside) h

-- the same of words that are one, where a call says whether it was done
pub lone_told : (done : Bool) (words : Texts) (old index new now : List ℕ) (n : ℤ) (k : ℕ) → words ≡ index ∷ [] → list_of index ≡ Ok (index ∷ []) → ((style : Integers) → int_of style index ≡ Ok n) → At k ≡ place n → OnTrue done (AtList (list_of old) (λ list. (k < length list) × (now ≡ write (set list k new)) × IsWithin (write (set list k new)))) → OnTrue done ((style : Integers) → lset_of style old words new ≡ Ok now)
lone_told true words old index new now n k one read int at h = λ style. ap (λ ws. lset_of style old ws new) one ∙ lone_set style old index new now n k read (int style) at h
lone_told false words old index new now n k one read int at h = tt
