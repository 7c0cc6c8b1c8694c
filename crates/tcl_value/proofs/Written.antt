-- What is known of written elements.
use Rattle.std.proofs.Common.{◌≡◌, ℕ, ◌+◌, ◌*◌, ◌<◌, ◌≤◌, ◌^◌, ◌%◌, suc, Bool, true, false, cond, ℤ, pos, negsuc, List, [], ◌∷◌, ◌++◌, length, refl, arith, FitsSigned, w64}
use Rattle.std.specs.Prelude.{◌==◌, ◌||◌, count_by}
use Rattle.std.specs.Fmt.{decimal, signed_decimal}
use Rattle.std.proofs.lemmas.Fmt.{decimal_by_steps}
use Rattle.std.proofs.lemmas.Bool.Decides.{nat_tests}
use Rattle.std.proofs.lemmas.List.Sums.{count_by-le-length}
use Rattle.tcl_text.specs.declared.list_writing.Form.{Form}
use Rattle.tcl_text.specs.declared.list_writing.Form.TheVariants.{Plain, Braced, Escaped}
use Rattle.tcl_text.specs.Writing.{is_special, has_special, begins_with_hash, is_comment, fits_braces, form_of, hash_mark, written}
use Rattle.tcl_text.proofs.Pushes.{written_plain, plain_len, braced_len, marked_len}
use Rattle.tcl_value.specs.Writing.{write_element}
use Rattle.tcl_value.specs.Texts.{ends_in_backslash}

-- at most each byte takes two, and there are braces
count_at_most : (p : ℕ → Bool) (x : List ℕ) → count_by p x ≤ length x
count_at_most p x = count_by-le-length p x

mark_at_most : (b : Bool) → length (hash_mark b) ≤ 1
mark_at_most true = omega arith
mark_at_most false = omega arith

pub size_at_most : (first : Bool) (x : List ℕ) → length (write_element first x) ≤ 2 * length x + 2
size_at_most first x = by_form (form_of first x) refl
  where
    by_form : (f : Form) → form_of first x ≡ f → length (written first x) ≤ 2 * length x + 2
    by_form Plain e = omega (arith, plain_len first x e)
    by_form Braced e = omega (arith, braced_len first x e)
    by_form Escaped e = omega (arith, marked_len first x _ _ e refl refl, mark_at_most (is_comment first x), count_at_most is_special x)

-- a text in which nothing is special and which isn't a comment
pub record IsPlainText (x : List ℕ) : Type 0 where
  pub some : 0 < length x
  pub plain : has_special x ≡ false
  pub hash : begins_with_hash x ≡ false

pub both_false : (a b : Bool) → a ≡ false → b ≡ false → (a || b) ≡ false
both_false true b h k = absurd (cc)
both_false false b h k = k

pub left_false : (a b : Bool) → (a || b) ≡ false → a ≡ false
left_false true b h = absurd (cc)
left_false false b h = refl

pub right_false : (a b : Bool) → (a || b) ≡ false → b ≡ false
right_false true b h = absurd (cc)
right_false false b h = h

special-append : (x : List ℕ) (b : ℕ) → has_special x ≡ false → is_special b ≡ false → has_special (x ++ b ∷ []) ≡ false
special-append [] b h e = both_false (is_special b) false e refl
special-append (c ∷ x) b h e = both_false (is_special c) _ (left_false (is_special c) (has_special x) h) (special-append x b (right_false (is_special c) (has_special x) h) e)

plain-append : (x : List ℕ) (b : ℕ) → IsPlainText x → is_special b ≡ false → IsPlainText (x ++ b ∷ [])
plain-append [] b h e = absurd (omega (arith, h.some))
plain-append (c ∷ x) b h e = record { some = omega arith; plain = special-append (c ∷ x) b h.plain e; hash = h.hash }

digit_special : (d : ℕ) → d < 10 → is_special (48 + d) ≡ false
digit_special d h = grind (arith, nat_tests)

digit_hash : (d : ℕ) → d < 10 → (48 + d == 35) ≡ false
digit_hash d h = grind (arith, nat_tests)

pub plain_decimal : (n : ℕ) → n < 2 ^ 64 → IsPlainText (decimal n)
plain_decimal n h = decimal_by_steps (λ n ds. IsPlainText ds) (λ n h. record { some = omega arith; plain = both_false _ false (digit_special n h) refl; hash = digit_hash n h }) (λ n ds low h. plain-append ds (48 + n % 10) h (digit_special (n % 10) (omega arith))) n h

pub plain_signed : (n : ℤ) → FitsSigned w64 n → IsPlainText (signed_decimal n)
plain_signed (pos n) h = plain_decimal n (omega arith)
plain_signed (negsuc n) h = record { some = omega arith; plain = both_false false _ refl (plain_decimal (suc n) (omega arith)).plain; hash = refl }

by_test : (t : Bool) (f g : Form) → t ≡ false → cond t f g ≡ g
by_test true f g h = absurd (cc)
by_test false f g h = refl

plain_form : (first : Bool) (x : List ℕ) → IsPlainText x → form_of first x ≡ Plain
plain_form first [] h = absurd (omega (arith, h.some))
plain_form true (b ∷ x) h = by_test (has_special (b ∷ x) || begins_with_hash (b ∷ x)) (cond (fits_braces (b ∷ x)) Braced Escaped) Plain (both_false (has_special (b ∷ x)) _ h.plain h.hash)
plain_form false (b ∷ x) h = by_test (has_special (b ∷ x) || false) (cond (fits_braces (b ∷ x)) Braced Escaped) Plain (both_false (has_special (b ∷ x)) false h.plain refl)

-- such a text is written as it is
pub write_element-plain : (first : Bool) (x : List ℕ) → IsPlainText x → write_element first x ≡ x
write_element-plain first x h = written_plain first x (plain_form first x h)

-- a number is
pub write_element-number : (first : Bool) (n : ℤ) → FitsSigned w64 n → write_element first (signed_decimal n) ≡ signed_decimal n
write_element-number first n h = write_element-plain first (signed_decimal n) (plain_signed n h)

not_backslash : (b : ℕ) → is_special b ≡ false → (b == 92) ≡ false
not_backslash b h = grind (arith, nat_tests)

-- and doesn't end in a backslash
pub plain_end : (x : List ℕ) → has_special x ≡ false → ends_in_backslash x ≡ false
plain_end [] h = refl
plain_end (b ∷ []) h = not_backslash b (left_false (is_special b) false h)
plain_end (b ∷ c ∷ x) h = plain_end (c ∷ x) (right_false (is_special b) (has_special (c ∷ x)) h)
