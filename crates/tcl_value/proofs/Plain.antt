-- Texts that are written as they are.
use Rattle.std.proofs.Common.{◌≡◌, ℕ, ◌<◌, ◌≤◌, Bool, true, false, ℤ, List, [], ◌∷◌, ◌++◌, length, refl, sym, ◌∙◌, ap, subst, arith, append-nil, get_or, FitsSigned, w64}
use Rattle.std.specs.Prelude.{not, ◌&&◌, ◌==◌}
use Rattle.std.specs.Char.{is_ascii}
use Rattle.std.specs.Fmt.{signed_decimal}
use Rattle.std.specs.List.{list_all}
use Rattle.std.specs.Str.{IsAscii}
use Rattle.std.proofs.lemmas.Bool.Decides.{nat_tests}
use Rattle.std.proofs.lemmas.Str.Ascii.{IsAscii-nil, IsAscii-cons}
use Rattle.itoa.proofs.Decimal.{IsAscii-signed_decimal}
use Rattle.tcl_text.specs.Writing.{is_special, has_special}
use Rattle.tcl_value.specs.Writing.{write_element, write}
use Rattle.tcl_value.specs.Texts.{element_text, texts, IsElement, AreElements}
use Rattle.tcl_value.specs.Plain.{IsPlain, ArePlain, is_plain_byte, is_plain, is_plain_element}
use Rattle.tcl_value.specs.declared.element.Element.{Element}
use Rattle.tcl_value.specs.declared.element.Element.TheVariants.{Text, Grown, Number, List as Inner, Dict}
use Rattle.tcl_value.proofs.Written.{both_false, plain_signed, write_element-plain, write_element-number}

not_true : (a : Bool) → not a ≡ true → a ≡ false
not_true true h = absurd (cc)
not_true false h = refl

both_left : (a b : Bool) → (a && b) ≡ true → a ≡ true
both_left true b h = refl
both_left false b h = absurd (cc)

both_right : (a b : Bool) → (a && b) ≡ true → b ≡ true
both_right true b h = h
both_right false b h = absurd (cc)

ascii_byte : (b : ℕ) → is_ascii b ≡ true → b < 128
ascii_byte b h = grind (arith, nat_tests)

-- what is tested of each byte
plain_bytes : (x : List ℕ) → list_all is_plain_byte x ≡ true → has_special x ≡ false
plain_bytes [] h = refl
plain_bytes (b ∷ x) h = both_false (is_special b) (has_special x) (not_true (is_special b) (both_left (not (is_special b)) (is_ascii b) (both_left (is_plain_byte b) (list_all is_plain_byte x) h))) (plain_bytes x (both_right (is_plain_byte b) (list_all is_plain_byte x) h))

ascii_bytes : (x : List ℕ) → list_all is_plain_byte x ≡ true → IsAscii x
ascii_bytes [] h = IsAscii-nil
ascii_bytes (b ∷ x) h = IsAscii-cons b x (ascii_byte b (both_right (not (is_special b)) (is_ascii b) (both_left (is_plain_byte b) (list_all is_plain_byte x) h))) (ascii_bytes x (both_right (is_plain_byte b) (list_all is_plain_byte x) h))

-- the test of a text, by its first byte
pub is_plain-from_first : (x : List ℕ) (all : Bool) → 1 ≤ length x → (get_or x 0 0 ≡ 35 → ⊥) → all ≡ list_all is_plain_byte x → all ≡ is_plain x
is_plain-from_first [] all h k e = absurd (omega arith)
is_plain-from_first (b ∷ x) all h k e = e ∙ ap (λ t. not t && list_all is_plain_byte (b ∷ x)) (sym (other b k))
  where
    other : (b : ℕ) → (b ≡ 35 → ⊥) → (b == 35) ≡ false
    other b k = grind (arith, nat_tests)

plain_text : (x : List ℕ) → is_plain x ≡ true → IsPlain x
plain_text [] h = absurd (cc)
plain_text (b ∷ x) h =
    let bytes = both_right (not (b == 35)) (list_all is_plain_byte (b ∷ x)) h in
    record { some = omega arith; ascii = ascii_bytes (b ∷ x) bytes; plain = plain_bytes (b ∷ x) bytes; hash = not_true (b == 35) (both_left (not (b == 35)) (list_all is_plain_byte (b ∷ x)) h) }

plain_number : (n : ℤ) → FitsSigned w64 n → IsPlain (signed_decimal n)
plain_number n h =
    let text = plain_signed n h in
    record { some = text.some; ascii = IsAscii-signed_decimal n h; plain = text.plain; hash = text.hash }

plain_element : (x : Element) → IsElement x → is_plain_element x ≡ true → IsPlain (element_text x)
plain_element (Text text) h p = plain_text text p
plain_element (Grown grown) h p = absurd (cc)
plain_element (Number n) h p = plain_number n h
plain_element (Inner items) h p = absurd (cc)
plain_element (Dict entries) h p = absurd (cc)

pub plain_elements : (xs : List Element) → AreElements xs → list_all is_plain_element xs ≡ true → ArePlain (texts xs)
plain_elements [] h p = tt
plain_elements (x ∷ xs) h p = (plain_element x h.0 (both_left (is_plain_element x) (list_all is_plain_element xs) p), plain_elements xs h.1 (both_right (is_plain_element x) (list_all is_plain_element xs) p))

-- lists of such texts, one behind the other
pub ArePlain-append : (xs ys : List (List ℕ)) → ArePlain xs → ArePlain ys → ArePlain (xs ++ ys)
ArePlain-append [] ys h k = k
ArePlain-append (x ∷ xs) ys h k = (h.0, ArePlain-append xs ys h.1 k)

pub write_element-IsPlain : (first : Bool) (x : List ℕ) → IsPlain x → write_element first x ≡ x
write_element-IsPlain first x h = write_element-plain first x (record { some = h.some; plain = h.plain; hash = h.hash })

-- a number alone is the text of its list
pub ArePlain-number : (n : ℤ) (list : List (List ℕ)) → FitsSigned w64 n → list ≡ signed_decimal n ∷ [] → ArePlain list
ArePlain-number n list h e = subst ArePlain (sym e) (plain_number n h, tt)

pub write-number : (n : ℤ) (list : List (List ℕ)) → FitsSigned w64 n → list ≡ signed_decimal n ∷ [] → signed_decimal n ≡ write list
write-number n list h e = sym (ap write e ∙ ap (λ x. x ++ []) (write_element-number true n h) ∙ append-nil (signed_decimal n))

pub write-alone : (xs : List (List ℕ)) (n : ℤ) → FitsSigned w64 n → length xs ≡ 1 → signed_decimal n ≡ get_or xs 0 (signed_decimal n) → write xs ≡ signed_decimal n
write-alone [] n h k e = absurd (omega arith)
write-alone (x ∷ []) n h k e = sym (write-number n (x ∷ []) h (ap (λ z. z ∷ []) (sym e)))
write-alone (x ∷ y ∷ xs) n h k e = absurd (omega arith)
