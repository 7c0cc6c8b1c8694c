-- The letters of texts.
use Rattle.std.proofs.Common.{◌≡◌, ℕ, ◌<◌, Bool, true, false, cond, List, [], ◌∷◌, ◌++◌, length, map, sym, ◌∙◌, ap, arith, length-append, drop}
use Rattle.std.specs.Char.{to_ascii_lowercase, encode_utf8}
use Rattle.std.specs.Str.{IsUtf8, chars}
use Rattle.std.proofs.lemmas.Str.{chars_past_char, length-encode, len_utf8_bounds, chars-nil}
use Rattle.tcl_glob.specs.Patterns.{letters}

pub no_letter : (nocase : Bool) (text : List ℕ) → length text ≡ 0 → letters nocase text ≡ []
no_letter true [] h = ap (map to_ascii_lowercase) chars-nil
no_letter false [] h = chars-nil
no_letter nocase (c ∷ cs) h = absurd (omega arith)

pub next_letter : (nocase : Bool) (text rest : List ℕ) (c : ℕ) → IsUtf8 text → text ≡ encode_utf8 c ++ rest → letters nocase text ≡ cond nocase (to_ascii_lowercase c) c ∷ letters nocase rest
next_letter true text rest c u e = ap (map to_ascii_lowercase) (chars_past_char text rest c u e)
next_letter false text rest c u e = chars_past_char text rest c u e

pub shorter_rest : (text rest : List ℕ) (c : ℕ) → text ≡ encode_utf8 c ++ rest → length rest < length text
shorter_rest text rest c e = omega (arith, ap length e, length-append (encode_utf8 c) rest, length-encode c, len_utf8_bounds c)

-- the first letter, where the characters of old are those of the text and new is what follows
pub found_letter : (nocase : Bool) (text old new rest : List ℕ) (c letter : ℕ) → IsUtf8 text → old ≡ text → rest ≡ new → old ≡ encode_utf8 c ++ new → letter ≡ cond nocase (to_ascii_lowercase c) c → (letters nocase text ≡ letter ∷ letters nocase rest) × (length rest < length text)
found_letter nocase text old new rest c letter u is_old is_new e is_letter =
    let whole : text ≡ encode_utf8 c ++ rest = sym is_old ∙ e ∙ ap (λ r. encode_utf8 c ++ r) (sym is_new) in
    (next_letter nocase text rest c u whole ∙ ap (λ l. l ∷ letters nocase rest) (sym is_letter), shorter_rest text rest c whole)

-- what follows the first character, where the characters of old are those of the text and new is what follows
pub behind_first : (text old new rest : List ℕ) (c : ℕ) → IsUtf8 text → old ≡ text → rest ≡ new → old ≡ encode_utf8 c ++ new → chars rest ≡ drop 1 (chars text)
behind_first text old new rest c u is_old is_new e =
    let whole : text ≡ encode_utf8 c ++ rest = sym is_old ∙ e ∙ ap (λ r. encode_utf8 c ++ r) (sym is_new) in
    sym (ap (drop 1) (chars_past_char text rest c u whole))
