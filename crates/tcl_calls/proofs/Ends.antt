-- Texts that begin and end with characters of one byte that aren't trimmed.
use Rattle.std.proofs.Common.{◌≡◌, ℕ, ◌<◌, ◌-◌, ◌++◌, ◌∷◌, [], List, length, get_or, take, drop, false, IsTrue, nat_lt, sym, ◌∙◌, ap, arith, refl, suc, zero}
use Rattle.std.proofs.lemmas.Bool.Decides.{nat_tests}
use Rattle.std.proofs.lemmas.Str.{encode_ascii, IsUtf8-take, IsCharBoundary-before_ascii}
use Rattle.std.specs.Str.{chars, IsUtf8}
use Rattle.tcl_characters.specs.Texts.{text_of, trim_end, is_among}
use Rattle.tcl_characters.proofs.Ends.{start_stops, end_stops}
use Rattle.tcl_characters.proofs.Trims.{chars_of_start}
use Rattle.tcl_lists.specs.Joining.{white, trimmed}

chars_white : chars white ≡ white
unfolding chars
chars_white = refl

-- each of the six is at most 32
other : (c : ℕ) → IsTrue (nat_lt 32 c) → is_among white c ≡ false
other c h = grind (arith, nat_tests)

-- what comes behind the space is none of them
pub past_white : (c : ℕ) → IsTrue (nat_lt 32 c) → is_among (chars white) c ≡ false
past_white c h = ap (λ set. is_among set c) chars_white ∙ other c h

first_of : (text : List ℕ) → 0 < length text → text ≡ get_or text 0 0 ∷ drop 1 text
first_of [] some = absurd (omega arith)
first_of (x ∷ rest) some = refl

last_of : (text : List ℕ) (n : ℕ) → suc n ≡ length text → text ≡ take n text ++ get_or text n 0 ∷ []
last_of [] n e = absurd (omega (arith, e))
last_of (x ∷ []) zero e = refl
last_of (x ∷ []) (suc n) e = absurd (omega (arith, e))
last_of (x ∷ y ∷ rest) zero e = absurd (omega (arith, e))
last_of (x ∷ y ∷ rest) (suc n) e = ap (λ z. x ∷ z) (last_of (y ∷ rest) n (omega (arith, e)))

pub plain_ends : (text : List ℕ) → IsUtf8 text → 0 < length text → get_or text 0 0 < 128 → get_or text (length text - 1) 0 < 128 → is_among (chars white) (get_or text 0 0) ≡ false → is_among (chars white) (get_or text (length text - 1) 0) ≡ false → trimmed text ≡ text
plain_ends text utf8 some small_a small_b out_a out_b =
    let set = chars white in
    let n = length text - 1 in
    let a = get_or text 0 0 in
    let b = get_or text n 0 in
    let starts = start_stops set text (drop 1 text) a utf8 (first_of text some ∙ ap (λ t. t ++ drop 1 text) (sym (encode_ascii a small_a))) out_a in
    let within : n < length text = omega (arith, some) in
    let count : suc n ≡ length text = omega (arith, some) in
    let front = IsUtf8-take text n utf8 (IsCharBoundary-before_ascii text n within small_b) in
    let stops = end_stops set text (take n text) b utf8 front (last_of text n count ∙ ap (λ t. take n text ++ t) (sym (encode_ascii b small_b))) out_b in
    sym (ap (λ cs. text_of (trim_end set cs)) (chars_of_start set text text utf8 starts)) ∙ sym stops
