-- The letters of texts.
use Rattle.std.proofs.Common.{◌≡◌, ℕ, ◌-◌, ◌<◌, ◌≤◌, Bool, true, false, List, [], ◌∷◌, ◌++◌, length, map, take, drop, reverse, refl, sym, ◌∙◌, ap, subst, arith, length-append, append-nil}
use Rattle.std.specs.Char.{to_ascii_lowercase, encode_utf8}
use Rattle.std.specs.Str.{chars, IsUtf8, IsCharBoundary}
use Rattle.std.proofs.lemmas.Str.{chars_past_char, chars-nil, chars-append, encodes-chars, chars_from_encodes, IsUtf8-drop, IsCharBoundary-from_take, IsCharBoundary-at_seam}
use Rattle.std.proofs.lemmas.List.{reverse-reverse, length-map}
use Rattle.std.proofs.Math.Seq.{take-append_seam, drop-append_seam}
use Rattle.tcl_glob.specs.Patterns.{letters}
use Rattle.tcl_characters.specs.Texts.{text_of}

-- a text is that of its characters
pub text_of-chars : (text cs : List ℕ) → IsUtf8 text → chars text ≡ cs → text ≡ text_of cs
text_of-chars text cs u e = sym (encodes-chars text u) ∙ ap text_of e

-- a text that isn't empty begins with a character
pub some_character : (text : List ℕ) → IsUtf8 text → 0 < length text → (c : ℕ) × (cs : List ℕ) × (chars text ≡ c ∷ cs)
some_character text u h = begins (chars text) (encodes-chars text u)
  where
    begins : (cs : List ℕ) → text_of cs ≡ text → (c : ℕ) × (ds : List ℕ) × (cs ≡ c ∷ ds)
    begins [] e = absurd (omega (arith, ap length e))
    begins (c ∷ ds) e = (c, ds, refl)

pub some_letter : (nocase : Bool) (text : List ℕ) → IsUtf8 text → 0 < length text → (c : ℕ) × (cs : List ℕ) × (letters nocase text ≡ c ∷ cs)
some_letter true text u h = let s = some_character text u h in (to_ascii_lowercase s.0, map to_ascii_lowercase s.1, ap (map to_ascii_lowercase) s.2)
some_letter false text u h = some_character text u h

-- a text that ends with a character
pub last_character : (text front : List ℕ) (c : ℕ) → IsUtf8 text → IsUtf8 front → text ≡ front ++ encode_utf8 c → chars text ≡ chars front ++ c ∷ []
last_character text front c u v e =
    let whole : take (length front) text ≡ front = ap (take (length front)) e ∙ take-append_seam front (encode_utf8 c) in
    let tail : drop (length front) text ≡ encode_utf8 c = ap (drop (length front)) e ∙ drop-append_seam front (encode_utf8 c) in
    let fits : length front ≤ length text = omega (arith, ap length e, length-append front (encode_utf8 c)) in
    let seam = IsCharBoundary-from_take text (length front) u fits (subst IsUtf8 (sym whole) v) in
    let letter : IsUtf8 (encode_utf8 c) = subst IsUtf8 tail (IsUtf8-drop text (length front) u seam) in
    ap chars e ∙ chars-append front (encode_utf8 c) v ∙ ap (λ cs. chars front ++ cs) (chars_past_char (encode_utf8 c) [] c letter (sym (append-nil (encode_utf8 c))) ∙ ap (λ cs. c ∷ cs) chars-nil)

-- characters that were taken from the end
pub reversed_from_encodes : (cs text : List ℕ) → IsUtf8 text → text_of (reverse cs) ≡ text → cs ≡ reverse (chars text)
reversed_from_encodes cs text u e = sym (reverse-reverse cs) ∙ ap reverse (chars_from_encodes (reverse cs) text u e)

-- where the first character ends
pub first_cut : (text old new rest : List ℕ) (c : ℕ) → IsUtf8 rest → old ≡ text → rest ≡ new → old ≡ encode_utf8 c ++ new → IsCharBoundary text (length text - length rest)
first_cut text old new rest c u is_old is_new e =
    let whole : text ≡ encode_utf8 c ++ rest = sym is_old ∙ e ∙ ap (λ r. encode_utf8 c ++ r) (sym is_new) in
    let sum = ap length whole in
    let parts = length-append (encode_utf8 c) rest in
    let end : length (encode_utf8 c) ≡ length text - length rest = omega arith in
    subst (IsCharBoundary text) end (IsCharBoundary-at_seam text (encode_utf8 c) rest whole u)

pub first_front : (text old new rest front : List ℕ) (c : ℕ) → IsUtf8 text → old ≡ text → rest ≡ new → old ≡ encode_utf8 c ++ new → front ≡ take (length text - length rest) text → (d : ℕ) × (chars text ≡ d ∷ chars rest) × (front ≡ encode_utf8 d)
first_front text old new rest front c u is_old is_new e is_front =
    let whole : text ≡ encode_utf8 c ++ rest = sym is_old ∙ e ∙ ap (λ r. encode_utf8 c ++ r) (sym is_new) in
    let sum = ap length whole in
    let parts = length-append (encode_utf8 c) rest in
    let end : length text - length rest ≡ length (encode_utf8 c) = omega arith in
    (c, chars_past_char text rest c u whole, is_front ∙ ap (λ n. take n text) end ∙ ap (take (length (encode_utf8 c))) whole ∙ take-append_seam (encode_utf8 c) rest)

pub length-letters : (nocase : Bool) (text : List ℕ) → length (letters nocase text) ≡ length (chars text)
length-letters true text = length-map (chars text) to_ascii_lowercase
length-letters false text = refl
