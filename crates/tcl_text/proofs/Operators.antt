-- The operator of an index text, and the places of numbers.
use Rattle.std.proofs.Common.{◌≡◌, ℕ, ◌+◌, ◌-◌, ◌^◌, ◌⊎◌, inl, inr, ◌<◌, Bool, true, false, cond, List, [], ◌∷◌, ◌++◌, length, take, drop, get_or, refl, sym, ◌∙◌, ap, arith, ℤ, pos, negsuc, length-take, length-drop, w64}
use Rattle.std.specs.Prelude.{Option, Some, None, option_map, nat_le, min, ◌==◌, codes, ◌+ℤ◌, ◌-ℤ◌, if◌then◌else◌, Result, Ok, Err}
use Rattle.std.specs.Str.{bytes_eq}
use Rattle.std.specs.Option.{option_or}
use Rattle.std.specs.Int.{saturate_signed}
use Rattle.std.proofs.lemmas.List.{take_more, take_all}
use Rattle.std.proofs.lemmas.Bool.Decides.{nat_tests}
use Rattle.tcl_text.specs.Indexes.{is_operator, after_first, last_operator, place, only_inside, base_of, offset_of, combine, sum_around, index_of}
use Rattle.tcl_text.specs.Numbers.{fits_64, in_64_bits, integer_of}
use Rattle.tcl_text.specs.declared.index.Index.{Index}
use Rattle.tcl_text.specs.declared.integer.Integers.{Integers}
use Rattle.tcl_text.specs.declared.integer.IntegerFault.{IntegerFault}
use Rattle.tcl_text.specs.declared.integer.IntegerFault.TheVariants.{TooLarge}
use Rattle.tcl_text.specs.declared.index.Index.TheVariants.{At, Beyond}

after_some : (b t : Bool) (n : ℕ) (o : Option ℕ) → after_first b (cond t (Some n) o) ≡ cond t (Some (n + 1)) (after_first b o)
after_some b true n o = refl
after_some b false n o = refl

pub operator_last : (xs : List ℕ) (c : ℕ) → last_operator (xs ++ c ∷ []) ≡ cond (is_operator c) (Some (length xs)) (last_operator xs)
operator_last [] c = one (is_operator c)
  where
    one : (b : Bool) → after_first b None ≡ cond b (Some 0) None
    one true = refl
    one false = refl
operator_last (x ∷ xs) c = ap (after_first (is_operator x)) (operator_last xs c) ∙ after_some (is_operator x) (is_operator c) (length xs) (last_operator xs) ∙ ap (λ n. cond (is_operator c) (Some n) (last_operator (x ∷ xs))) (omega arith)

pub operator_next : (xs : List ℕ) (i : ℕ) → i < length xs → last_operator (take (i + 1) xs) ≡ cond (is_operator (get_or xs i 0)) (Some i) (last_operator (take i xs))
operator_next xs i h = ap last_operator (take_more xs i 0 h) ∙ operator_last (take i xs) (get_or xs i 0) ∙ ap (λ n. cond (is_operator (get_or xs i 0)) (Some n) (last_operator (take i xs))) (length-take i xs ∙ omega arith)

-- a number past 64 bits has the place of the greatest or the least
beyond : (n : ℕ) → 16777216 < n → place (pos n) ≡ Beyond
beyond n h = ap (λ t. cond t (At n) Beyond) (test n h)
  where
    test : (n : ℕ) → 16777216 < n → nat_le n 16777216 ≡ false
    test n h = grind (arith, nat_tests)

least : (n : ℕ) → (min n (2 ^ 63 - 1) ≡ n) ⊎ ((16777216 < min n (2 ^ 63 - 1)) × (16777216 < n))
least n = grind arith

pub place_saturated : (z : ℤ) → place (saturate_signed w64 z) ≡ place z
place_saturated (pos n) = elim (least n) [ inl e ↦ ap (λ m. place (pos m)) e | inr h ↦ beyond _ h.0 ∙ sym (beyond n h.1) ]
place_saturated (negsuc n) = refl

-- what follows a place
pub rest_of : (xs : List ℕ) (k : ℕ) → take (length xs - k) (drop k xs) ≡ drop k xs
rest_of xs k = take_all (length xs - k) (drop k xs) (omega (arith, length-drop k xs))

-- a sum around an operator
pub sum_is : (style : Integers) (end base offset : ℤ) (text : List ℕ) (at : ℕ) (r : Index) → Some at ≡ last_operator text → Some base ≡ base_of style end (take at text) → Some offset ≡ offset_of style (drop (at + 1) text) → r ≡ place (if get_or text at 0 == 43 then base +ℤ offset else base -ℤ offset) → Some r ≡ option_map place (sum_around style end text (last_operator text))
sum_is style end base offset text at r found front back e =
    ap Some e ∙ ap (option_map place) (ap (λ o. combine (get_or text at 0) o (Some offset)) front ∙ ap (combine (get_or text at 0) (base_of style end (take at text))) back ∙ ap (sum_around style end text) found)

-- no integer inside 64 bits
outside : (t : Bool) (n : ℤ) (e : IntegerFault) → ◌≡◌ {A = Result ℤ IntegerFault} (cond t (Ok n) (Err TooLarge)) (Err e) → cond t (Some n) None ≡ None
outside true n e h = absurd (cc)
outside false n e h = refl

pub none_inside : (o : Option ℤ) (e : IntegerFault) → in_64_bits o ≡ Err e → only_inside o ≡ None
none_inside None e h = refl
none_inside (Some n) e h = outside (fits_64 n) n e h

pub by_sum : (style : Integers) (end : ℤ) (text : List ℕ) → only_inside (integer_of style text) ≡ None → bytes_eq text (codes "end") ≡ false → index_of style end text ≡ sum_around style end text (last_operator text)
by_sum style end text h e =
    ap (λ o. option_or o (if bytes_eq text (codes "end") then Some end else sum_around style end text (last_operator text))) h ∙ ap (λ t. cond t (Some end) (sum_around style end text (last_operator text))) e
