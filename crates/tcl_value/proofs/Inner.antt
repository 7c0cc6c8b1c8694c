-- A list of two elements or more whose last element doesn't end in a backslash is written in braces where it is an element.
use Rattle.std.proofs.Common.{◌≡◌, ℕ, zero, suc, set, ◌-◌, ◌<◌, ◌≤◌, Bool, true, false, cond, ◌||◌, List, [], ◌∷◌, ◌++◌, length, refl, sym, ◌∙◌, ap, arith, get_or, inl, inr, length-append}
use Rattle.std.specs.Prelude.{◌==◌}
use Rattle.std.specs.List.{flat_map}
use Rattle.std.proofs.lemmas.List.{length-set}
use Rattle.std.proofs.lemmas.Bool.{cases_Bool, and_parts, not-true}
use Rattle.std.proofs.lemmas.Bool.Decides.{nat_tests}
use Rattle.tcl_text.specs.declared.list_writing.Form.TheVariants.{Plain, Braced, Escaped}
use Rattle.tcl_text.specs.Writing.{is_special, has_special, is_comment, fits_braces, last_byte, letter_of, escaped_byte, hash_mark, form_of, written}
use Rattle.tcl_text.proofs.Balance.{fits_list}
use Rattle.tcl_text.proofs.Pushes.{written_braced}
use Rattle.tcl_text.proofs.Spellings.{elem_head}
use Rattle.tcl_text.proofs.Writings.{written_elem}
use Rattle.tcl_value.specs.Limits.{IsWithin}
use Rattle.tcl_value.specs.Writing.{write_rest, write}
use Rattle.tcl_value.specs.Texts.{IsInner, ends_in_backslash}
use Rattle.tcl_value.proofs.Lasts.{last_cons}

append_nil : (l : List ℕ) → l ++ [] ≡ l
append_nil [] = refl
append_nil (x ∷ l) = ap (λ m. x ∷ m) (append_nil l)

or_right : (s t : Bool) → t ≡ true → (s || t) ≡ true
or_right true t h = refl
or_right false t h = h

letter_92 : (b : ℕ) → (letter_of b == 92) ≡ (b == 92)
letter_92 b = grind (arith, nat_tests)

-- how what is written ends
last_ends : (x : List ℕ) → (last_byte 0 x == 92) ≡ ends_in_backslash x
last_ends [] = refl
last_ends (b ∷ []) = refl
last_ends (b ∷ c ∷ x) = last_ends (c ∷ x)

pub ends_append : (s t : List ℕ) → 0 < length t → ends_in_backslash (s ++ t) ≡ ends_in_backslash t
ends_append [] t h = refl
ends_append (b ∷ []) [] h = absurd (omega arith)
ends_append (b ∷ []) (c ∷ t) h = refl
ends_append (b ∷ c ∷ s) t h = ends_append (c ∷ s) t h

escaped_some : (t : Bool) (b : ℕ) (r : List ℕ) → 0 < length (cond t (92 ∷ letter_of b ∷ []) (b ∷ []) ++ r)
escaped_some true b r = omega arith
escaped_some false b r = omega arith

ends_one : (t : Bool) (b : ℕ) → ends_in_backslash (cond t (92 ∷ letter_of b ∷ []) (b ∷ []) ++ []) ≡ (b == 92)
ends_one true b = letter_92 b
ends_one false b = refl

ends_escaped : (b : ℕ) (x : List ℕ) → ends_in_backslash (flat_map escaped_byte (b ∷ x)) ≡ ends_in_backslash (b ∷ x)
ends_escaped b [] = ends_one (is_special b) b
ends_escaped b (c ∷ x) = ends_append (escaped_byte b) (flat_map escaped_byte (c ∷ x)) (escaped_some (is_special c) c (flat_map escaped_byte x)) ∙ ends_escaped c x

ends_marked : (b : ℕ) (x : List ℕ) (comment : Bool) → ends_in_backslash (hash_mark comment ++ flat_map escaped_byte (b ∷ x)) ≡ ends_in_backslash (b ∷ x)
ends_marked b x comment = ends_append (hash_mark comment) (flat_map escaped_byte (b ∷ x)) (escaped_some (is_special b) b (flat_map escaped_byte x)) ∙ ends_escaped b x

ends_braced : (x : List ℕ) → (last_byte 0 x == 92) ≡ false → ends_in_backslash (123 ∷ (x ++ 125 ∷ [])) ≡ ends_in_backslash x
ends_braced x h = ends_append (123 ∷ x) (125 ∷ []) (omega arith) ∙ sym h ∙ last_ends x

ends_written : (first : Bool) (x : List ℕ) → ends_in_backslash (written first x) ≡ ends_in_backslash x
unfolding written
ends_written first [] = refl
ends_written first (b ∷ s) =
    elim (cases_Bool (has_special (b ∷ s) || is_comment first (b ∷ s))) [
      | inl marked ↦ elim (cases_Bool (fits_braces (b ∷ s))) [
        | inl fits ↦ rw (marked, fits) (ends_braced (b ∷ s) (not-true _ (and_parts _ _ (and_parts _ _ fits).0).1))
        | inr never ↦ rw (marked, never) (ends_marked b s (is_comment first (b ∷ s)))
      ]
      | inr plain ↦ rw plain refl
    ]

written_some : (first : Bool) (x r : List ℕ) → 0 < length (written first x ++ r)
written_some first x r = let h = elem_head x (written first x) [] (written_elem first x []) in omega (arith, length-append (written first x) r, ap length h.2)

ends_from : (first : Bool) (x : List ℕ) (xs : List (List ℕ)) (last : List ℕ) → last ≡ get_or (x ∷ xs) (length (x ∷ xs) - 1) last → ends_in_backslash (written first x ++ write_rest xs) ≡ ends_in_backslash last
ends_from first x [] last e = ap ends_in_backslash (append_nil (written first x)) ∙ ends_written first x ∙ ap ends_in_backslash (sym e)
ends_from first x (y ∷ xs) last e =
    ends_append (written first x) (32 ∷ (written false y ++ write_rest xs)) (omega arith)
    ∙ ends_append (32 ∷ []) (written false y ++ write_rest xs) (written_some false y (write_rest xs))
    ∙ ends_from false y xs last (e ∙ last_cons x y xs last)

-- a space is special
special_append : (s t : List ℕ) → has_special (s ++ 32 ∷ t) ≡ true
special_append [] t = refl
special_append (b ∷ s) t = or_right (is_special b) _ (special_append s t)

form_braced : (first : Bool) (w : List ℕ) → has_special w ≡ true → fits_braces w ≡ true → form_of first w ≡ Braced
form_braced first [] h f = refl
form_braced first (b ∷ s) h f = by_tests (has_special (b ∷ s)) (fits_braces (b ∷ s)) h f
  where
    by_tests : (t u : Bool) → t ≡ true → u ≡ true → cond (t || is_comment first (b ∷ s)) (cond u Braced Escaped) Plain ≡ Braced
    by_tests true true h f = refl
    by_tests true false h f = absurd (let e : false ≡ true = f in cc)
    by_tests false u h f = absurd (let e : false ≡ true = h in cc)

inner_several : (x y : List ℕ) (xs : List (List ℕ)) → ends_in_backslash (write (x ∷ y ∷ xs)) ≡ false → IsWithin (write (x ∷ y ∷ xs)) → IsInner (write (x ∷ y ∷ xs))
inner_several x y xs h w = record {
  braced = λ first. written_braced first (write (x ∷ y ∷ xs)) (form_braced first (write (x ∷ y ∷ xs)) (special_append (written true x) (written false y ++ write_rest xs)) (fits_list x (y ∷ xs) (last_ends (write (x ∷ y ∷ xs)) ∙ h)));
  ends = h;
  within = w;
}

pub inner_list : (xs : List (List ℕ)) (last : List ℕ) → 2 ≤ length xs → last ≡ get_or xs (length xs - 1) last → ends_in_backslash last ≡ false → IsWithin (write xs) → IsInner (write xs)
inner_list [] last many at ends within = absurd (omega arith)
inner_list (x ∷ []) last many at ends within = absurd (omega arith)
inner_list (x ∷ y ∷ xs) last many at ends within = inner_several x y xs (ends_from true x (y ∷ xs) last at ∙ ends) within

-- an empty list is written in braces as well
pub inner_empty : IsInner []
unfolding written
inner_empty = record { braced = λ first. refl; ends = refl; within = omega arith }

-- whatever stands for an element that there is, it is the same
pub there : {A : Type 0} (xs : List A) (i : ℕ) (d e : A) → i < length xs → get_or xs i d ≡ get_or xs i e
there [] i d e h = absurd (omega arith)
there (x ∷ xs) zero d e h = refl
there (x ∷ xs) (suc i) d e h = there xs i d e (omega arith)

-- how the text of a list ends
pub ends_write : (xs : List (List ℕ)) (d : List ℕ) → 0 < length xs → ends_in_backslash (write xs) ≡ ends_in_backslash (get_or xs (length xs - 1) d)
ends_write [] d h = absurd (omega arith)
ends_write (x ∷ xs) d h = ends_from true x xs (get_or (x ∷ xs) (length (x ∷ xs) - 1) d) (there (x ∷ xs) (length (x ∷ xs) - 1) d _ (omega arith))

-- after an element was put in the place of another, or behind the last
last_set : (xs : List (List ℕ)) (i : ℕ) (y d : List ℕ) → i < length xs → ends_in_backslash (get_or xs (length xs - 1) d) ≡ false → ends_in_backslash y ≡ false → ends_in_backslash (get_or (set xs i y) (length (set xs i y) - 1) d) ≡ false
last_set [] i y d h e f = absurd (omega arith)
last_set (x ∷ []) zero y d h e f = f
last_set (x ∷ []) (suc i) y d h e f = absurd (omega arith)
last_set (x ∷ z ∷ xs) zero y d h e f = ap ends_in_backslash (last_cons y z xs d ∙ sym (last_cons x z xs d)) ∙ e
last_set (x ∷ z ∷ xs) (suc zero) y d h e f = ap ends_in_backslash (last_cons x y xs d) ∙ last_set (z ∷ xs) zero y d (omega arith) (ap ends_in_backslash (sym (last_cons x z xs d)) ∙ e) f
last_set (x ∷ z ∷ xs) (suc (suc i)) y d h e f = ap ends_in_backslash (last_cons x z (set xs i y) d) ∙ last_set (z ∷ xs) (suc i) y d (omega arith) (ap ends_in_backslash (sym (last_cons x z xs d)) ∙ e) f

last_push : (xs : List (List ℕ)) (y d : List ℕ) → get_or (xs ++ y ∷ []) (length (xs ++ y ∷ []) - 1) d ≡ y
last_push [] y d = refl
last_push (x ∷ []) y d = refl
last_push (x ∷ z ∷ xs) y d = last_cons x z (xs ++ y ∷ []) d ∙ last_push (z ∷ xs) y d

pub ends_set : (xs : List (List ℕ)) (i : ℕ) (y : List ℕ) → i < length xs → ends_in_backslash (write xs) ≡ false → ends_in_backslash y ≡ false → ends_in_backslash (write (set xs i y)) ≡ false
ends_set xs i y h e f =
    let some : 0 < length (set xs i y) = omega (arith, length-set xs i y) in
    ends_write (set xs i y) [] some ∙ last_set xs i y [] h (sym (ends_write xs [] (omega arith)) ∙ e) f

pub ends_push : (xs : List (List ℕ)) (y : List ℕ) → ends_in_backslash (write (xs ++ y ∷ [])) ≡ ends_in_backslash y
ends_push xs y = ends_write (xs ++ y ∷ []) [] (omega (arith, length-append xs (y ∷ []))) ∙ ap ends_in_backslash (last_push xs y [])

-- a list of several elements that doesn't end in a backslash is written in braces
pub inner_of : (xs : List (List ℕ)) → 2 ≤ length xs → ends_in_backslash (write xs) ≡ false → IsWithin (write xs) → IsInner (write xs)
inner_of [] many ends within = absurd (omega arith)
inner_of (x ∷ []) many ends within = absurd (omega arith)
inner_of (x ∷ y ∷ xs) many ends within = inner_several x y xs ends within

last_append : (xs ys : List (List ℕ)) (d : List ℕ) → 1 ≤ length ys → get_or (xs ++ ys) (length (xs ++ ys) - 1) d ≡ get_or ys (length ys - 1) d
last_append [] ys d h = refl
last_append (x ∷ []) [] d h = absurd (omega arith)
last_append (x ∷ []) (y ∷ ys) d h = last_cons x y ys d
last_append (x ∷ z ∷ xs) ys d h = last_cons x z (xs ++ ys) d ∙ last_append (z ∷ xs) ys d h

pub ends_append_list : (xs ys : List (List ℕ)) → 1 ≤ length ys → ends_in_backslash (write (xs ++ ys)) ≡ ends_in_backslash (write ys)
ends_append_list xs ys h = ends_write (xs ++ ys) [] (omega (arith, length-append xs ys)) ∙ ap ends_in_backslash (last_append xs ys [] h) ∙ sym (ends_write ys [] (omega arith))
