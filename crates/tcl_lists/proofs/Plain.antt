-- Lists whose elements are plain, put together.
use Rattle.std.proofs.Common.{◌≡◌, ℕ, suc, ◌<◌, ◌+◌, true, false, cond, List, [], ◌∷◌, ◌++◌, length, drop, get_or, refl, sym, ◌∙◌, ap, arith, append-nil, append_assoc}
use Rattle.std.specs.Prelude.{◌==◌, codes}
use Rattle.std.specs.List.{flat_map}
use Rattle.std.specs.Str.{chars, IsAscii}
use Rattle.std.proofs.lemmas.Bool.Decides.{nat_tests}
use Rattle.std.proofs.lemmas.Grind.{flat_map-append}
use Rattle.std.proofs.lemmas.List.{drop_more}
use Rattle.std.proofs.lemmas.Str.{chars-nil, chars-IsAscii, encodes-IsAscii, IsAscii-append}
use Rattle.std.proofs.lemmas.Str.Ascii.{IsAscii-nil, IsAscii-cons}
use Rattle.tcl_text.specs.Writing.{is_special, has_special, last_byte}
use Rattle.tcl_value.specs.Writing.{write, write_rest}
use Rattle.tcl_value.specs.Plain.{IsPlain, ArePlain}
use Rattle.tcl_value.proofs.Plain.{write_element-IsPlain, ArePlain-append}
use Rattle.tcl_value.proofs.Written.{left_false, right_false}
use Rattle.tcl_characters.specs.Texts.{text_of, is_among, trim_start, before_trimmed, trim_end}
use Rattle.tcl_lists.specs.Joining.{joined, white, trimmed, with_part, filled, gap, onto}
use Rattle.tcl_lists.proofs.Added.{part_added}

-- a text with a space before it
abbrev spaced : List ℕ → List ℕ
spaced y = codes " " ++ y

-- ---- how such a list is written

rest_plain : (xs : List (List ℕ)) → ArePlain xs → write_rest xs ≡ flat_map spaced xs
rest_plain [] h = refl
rest_plain (x ∷ xs) h = ap (λ t. 32 ∷ (t ++ write_rest xs)) (write_element-IsPlain false x h.0) ∙ ap (λ t. 32 ∷ (x ++ t)) (rest_plain xs h.1)

write-plain : (xs : List (List ℕ)) → ArePlain xs → write xs ≡ joined (codes " ") xs
write-plain [] h = refl
write-plain (x ∷ xs) h = ap (λ t. t ++ write_rest xs) (write_element-IsPlain true x h.0) ∙ ap (λ t. x ++ t) (rest_plain xs h.1)

joined-append : (x y : List ℕ) (xs ys : List (List ℕ)) → joined (codes " ") ((x ∷ xs) ++ (y ∷ ys)) ≡ joined (codes " ") (x ∷ xs) ++ (codes " " ++ joined (codes " ") (y ∷ ys))
joined-append x y xs ys = ap (λ t. x ++ t) (flat_map-append spaced xs (y ∷ ys)) ∙ sym (append_assoc x (flat_map spaced xs) (flat_map spaced (y ∷ ys)))

-- two of them, one behind the other
write-append : (xs ys : List (List ℕ)) → ArePlain xs → ArePlain ys → 0 < length ys → write (xs ++ ys) ≡ write xs ++ (gap (write xs) ++ write ys)
write-append xs [] h k m = absurd (omega (arith, m))
write-append [] (y ∷ ys) h k m = refl
write-append ([] ∷ xs) (y ∷ ys) h k m = absurd (omega (arith, h.0.some))
write-append ((b ∷ x) ∷ xs) (y ∷ ys) h k m =
    write-plain (((b ∷ x) ∷ xs) ++ (y ∷ ys)) (ArePlain-append ((b ∷ x) ∷ xs) (y ∷ ys) h k)
    ∙ joined-append (b ∷ x) y xs ys
    ∙ ap (λ t. joined (codes " ") ((b ∷ x) ∷ xs) ++ (codes " " ++ t)) (sym (write-plain (y ∷ ys) k))
    ∙ ap (λ t. t ++ (gap t ++ write (y ∷ ys))) (sym (write-plain ((b ∷ x) ∷ xs) h))

-- ---- its ends

last_byte-append : (p : ℕ) (x y : List ℕ) → last_byte p (x ++ y) ≡ last_byte (last_byte p x) y
last_byte-append p [] y = refl
last_byte-append p (b ∷ x) y = last_byte-append b x y

last_special : (p : ℕ) (x : List ℕ) → is_special p ≡ false → has_special x ≡ false → is_special (last_byte p x) ≡ false
last_special p [] h k = h
last_special p (b ∷ x) h k = last_special b x (left_false (is_special b) (has_special x) k) (right_false (is_special b) (has_special x) k)

last_plain : (p : ℕ) (x : List ℕ) → IsPlain x → is_special (last_byte p x) ≡ false
last_plain p [] h = absurd (omega (arith, h.some))
last_plain p (b ∷ x) h = last_special b x (left_false (is_special b) (has_special x) h.plain) (right_false (is_special b) (has_special x) h.plain)

last_rest : (p : ℕ) (xs : List (List ℕ)) → is_special p ≡ false → ArePlain xs → is_special (last_byte p (flat_map spaced xs)) ≡ false
last_rest p [] h k = h
last_rest p (x ∷ xs) h k = ap is_special (last_byte-append 32 x (flat_map spaced xs)) ∙ last_rest (last_byte 32 x) xs (last_plain 32 x k.0) k.1

ascii_rest : (xs : List (List ℕ)) → ArePlain xs → IsAscii (flat_map spaced xs)
ascii_rest [] h = IsAscii-nil
ascii_rest (x ∷ xs) h = IsAscii-append (spaced x) (flat_map spaced xs) (IsAscii-cons 32 x (omega arith) h.0.ascii) (ascii_rest xs h.1)

-- ---- what is trimmed of it

not_white : (b : ℕ) → is_special b ≡ false → is_among white b ≡ false
not_white b h = grind (arith, nat_tests)

white_ascii : IsAscii white
white_ascii = IsAscii-cons 32 (9 ∷ 10 ∷ 11 ∷ 12 ∷ 13 ∷ []) (omega arith) (IsAscii-cons 9 (10 ∷ 11 ∷ 12 ∷ 13 ∷ []) (omega arith) (IsAscii-cons 10 (11 ∷ 12 ∷ 13 ∷ []) (omega arith) (IsAscii-cons 11 (12 ∷ 13 ∷ []) (omega arith) (IsAscii-cons 12 (13 ∷ []) (omega arith) (IsAscii-cons 13 [] (omega arith) IsAscii-nil)))))

trim_end_stays : (b : ℕ) (x : List ℕ) → is_among white (last_byte b x) ≡ false → trim_end white (b ∷ x) ≡ b ∷ x
trim_end_stays b [] h = ap (λ t. cond t [] (b ∷ [])) h
trim_end_stays b (c ∷ x) h = ap (before_trimmed white b) (trim_end_stays c x h)

trimmed_stays : (b : ℕ) (x : List ℕ) → IsAscii (b ∷ x) → is_special b ≡ false → is_special (last_byte b x) ≡ false → trimmed (b ∷ x) ≡ b ∷ x
trimmed_stays b x a h k =
    ap (λ w. text_of (trim_end w (trim_start w (chars (b ∷ x))))) (chars-IsAscii white white_ascii)
    ∙ ap (λ cs. text_of (trim_end white (trim_start white cs))) (chars-IsAscii (b ∷ x) a)
    ∙ ap (λ t. text_of (trim_end white (cond t (trim_start white x) (b ∷ x)))) (not_white b h)
    ∙ ap text_of (trim_end_stays b x (not_white (last_byte b x) k))
    ∙ encodes-IsAscii (b ∷ x) a

trimmed-nil : trimmed [] ≡ []
trimmed-nil = ap (λ cs. text_of (trim_end (chars white) (trim_start (chars white) cs))) chars-nil

-- nothing of a list's text is
trimmed-write : (xs : List (List ℕ)) → ArePlain xs → trimmed (write xs) ≡ write xs
trimmed-write [] h = trimmed-nil
trimmed-write ([] ∷ xs) h = absurd (omega (arith, h.0.some))
trimmed-write ((b ∷ x) ∷ xs) h =
    let text = write-plain ((b ∷ x) ∷ xs) h in
    let ascii = IsAscii-append (b ∷ x) (flat_map spaced xs) h.0.ascii (ascii_rest xs h.1) in
    let start = left_false (is_special b) (has_special x) h.0.plain in
    let end = ap is_special (last_byte-append b x (flat_map spaced xs)) ∙ last_rest (last_byte b x) xs (last_plain b (b ∷ x) h.0) h.1 in
    ap trimmed text ∙ trimmed_stays b (x ++ flat_map spaced xs) ascii start end ∙ sym text

some_text : (xs : List (List ℕ)) → ArePlain xs → 0 < length xs → (length (write xs) == 0) ≡ false
some_text [] h k = absurd (omega (arith, k))
some_text ([] ∷ xs) h k = absurd (omega (arith, h.0.some))
some_text ((b ∷ x) ∷ xs) h k = ap (λ t. length t == 0) (write-plain ((b ∷ x) ∷ xs) h) ∙ not_zero (length (x ++ flat_map spaced xs))
  where
    not_zero : (n : ℕ) → (suc n == 0) ≡ false
    not_zero n = grind (arith, nat_tests)

-- ---- words that are the texts of such lists

onto_nothing : (text : List ℕ) (l : List (List ℕ)) → onto text l ≡ joined (codes " ") (with_part text l)
onto_nothing [] l = refl
onto_nothing (b ∷ text) l = refl

-- the first word
pub begun : (words rest made : List (List ℕ)) (word : List ℕ) → words ≡ word ∷ rest → word ≡ write made → ArePlain made → onto (write made) (filled rest) ≡ joined (codes " ") (filled words)
begun words rest made word e w h =
    onto_nothing (write made) (filled rest)
    ∙ ap (λ t. joined (codes " ") (with_part t (filled rest))) (sym (trimmed-write made h) ∙ ap trimmed (sym w))
    ∙ ap (λ ws. joined (codes " ") (filled ws)) (sym e)

list_added : (made list l : List (List ℕ)) → ArePlain made → ArePlain list → onto (write (made ++ list)) l ≡ onto (write made) (with_part (trimmed (write list)) l)
list_added made [] l h k = ap (λ ts. onto (write ts) l) (append-nil made) ∙ ap (λ t. onto (write made) (with_part t l)) (sym trimmed-nil)
list_added made (y ∷ ys) l h k =
    ap (λ t. onto t l) (write-append made (y ∷ ys) h k (omega arith))
    ∙ part_added (write made) (write (y ∷ ys)) l (length (write (y ∷ ys)) == 0) refl (some_text (y ∷ ys) k (omega arith))
    ∙ ap (λ t. onto (write made) (with_part t l)) (sym (trimmed-write (y ∷ ys) k))

-- one more
pub one_more : (rest made list grown : List (List ℕ)) (word : List ℕ) (i : ℕ) → i < length rest → word ≡ get_or rest i word → word ≡ write list → grown ≡ made ++ list → ArePlain made → ArePlain list → onto (write grown) (filled (drop (i + 1) rest)) ≡ onto (write made) (filled (drop i rest))
one_more rest made list grown word i m e w g h k =
    ap (λ ts. onto (write ts) (filled (drop (i + 1) rest))) g
    ∙ list_added made list (filled (drop (i + 1) rest)) h k
    ∙ ap (λ t. onto (write made) (with_part (trimmed t) (filled (drop (i + 1) rest)))) (sym w)
    ∙ ap (λ ws. onto (write made) (filled ws)) (sym (drop_more rest i word m ∙ ap (λ t. t ∷ drop (i + 1) rest) (sym e)))
