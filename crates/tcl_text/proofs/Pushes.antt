-- The steps of writing a list.
use Rattle.std.proofs.Common.{◌≡◌, ℕ, suc, ◌+◌, ◌/◌, ◌%◌, ◌<◌, ◌≤◌, Bool, true, false, cond, List, [], ◌∷◌, ◌++◌, length, refl, sym, ◌∙◌, ap, inl, inr, arith, Result, Ok, Err, OnOk, is_ok, append_assoc, length-append, flat_map, count_by}
use Rattle.std.specs.Char.{encode_utf8}
use Rattle.std.proofs.lemmas.Bool.{cases_lt, lt-ltb, le-ltb}
use Rattle.std.proofs.lemmas.Bool.Decides.{nat_tests}
use Rattle.std.proofs.lemmas.List.Concat.{flat_map-append}
use Rattle.std.proofs.lemmas.List.Sums.{sum_by-cons}
use Rattle.std.proofs.lemmas.Str.{encode_ascii}
use Rattle.tcl_text.specs.declared.list_writing.Form.TheVariants.{Plain, Braced, Escaped}
use Rattle.tcl_text.specs.Writing.{is_special, is_comment, form_of, letter_of, escaped_byte, hash_mark, in_form, written, Extends}

-- a last push, whose result is returned
pub push_ok : {T E : Type 0} (r : Result T E) (new before s old t : List ℕ) → new ≡ cond (is_ok r) (before ++ s) before → before ++ s ≡ old ++ t → OnOk r (new ≡ old ++ t)
push_ok (Ok v) new before s old t h e = h ∙ e
push_ok (Err d) new before s old t h e = tt

pub call_ok : {T E : Type 0} (r : Result T E) (new before s old t : List ℕ) → OnOk r (new ≡ before ++ s) → before ++ s ≡ old ++ t → OnOk r (new ≡ old ++ t)
call_ok (Ok v) new before s old t h e = h ∙ e
call_ok (Err d) new before s old t h e = tt

special_low : (c : ℕ) → is_special c ≡ true → c < 128
special_low c h = grind (arith, nat_tests)

letter_low : (c : ℕ) → c < 128 → letter_of c < 128
letter_low c h = grind (arith, nat_tests)

high_plain : (b : ℕ) → 128 ≤ b → escaped_byte b ≡ b ∷ []
high_plain b h = grind (arith, nat_tests)

plain_long : (c : ℕ) → 128 ≤ c → flat_map escaped_byte (encode_utf8 c) ≡ encode_utf8 c
unfolding encode_utf8
plain_long c high =
    rw (le-ltb c 128 high)
    (elim (cases_lt c 2048) [
      | inl low ↦ rw (lt-ltb c 2048 low) (rw (high_plain (192 + c / 64) (omega arith), high_plain (128 + c % 64) (omega arith)) refl)
      | inr more ↦
          rw (le-ltb c 2048 more)
          (elim (cases_lt c 65536) [
            | inl low ↦ rw (lt-ltb c 65536 low) (rw (high_plain (224 + c / 4096) (omega arith), high_plain (128 + c / 64 % 64) (omega arith), high_plain (128 + c % 64) (omega arith)) refl)
            | inr most ↦ rw (le-ltb c 65536 most) (rw (high_plain (240 + c / 262144) (omega arith), high_plain (128 + c / 4096 % 64) (omega arith), high_plain (128 + c / 64 % 64) (omega arith), high_plain (128 + c % 64) (omega arith)) refl)
          ])
    ])

pub plain_bytes : (c : ℕ) → is_special c ≡ false → flat_map escaped_byte (encode_utf8 c) ≡ encode_utf8 c
plain_bytes c h =
    elim (cases_lt c 128) [
      | inl low ↦ rw (encode_ascii c low) (rw h refl)
      | inr high ↦ plain_long c high
    ]

-- the backslash and the letter of a special character
pub special_bytes : (c letter : ℕ) (old before : List ℕ) → is_special c ≡ true → before ≡ old ++ encode_utf8 92 → letter ≡ letter_of c → before ++ encode_utf8 letter ≡ old ++ flat_map escaped_byte (encode_utf8 c)
special_bytes c letter old before h e is =
    let low = special_low c h in
    let slash : before ≡ old ++ 92 ∷ [] = e ∙ ap (λ z. old ++ z) (encode_ascii 92 (omega arith)) in
    let tail : encode_utf8 letter ≡ letter_of c ∷ [] = ap encode_utf8 is ∙ encode_ascii (letter_of c) (letter_low c low) in
    let whole : flat_map escaped_byte (encode_utf8 c) ≡ 92 ∷ letter_of c ∷ [] = ap (flat_map escaped_byte) (encode_ascii c low) ∙ rw h refl in
    (λ i. slash i ++ tail i) ∙ append_assoc old (92 ∷ []) (letter_of c ∷ []) ∙ ap (λ z. old ++ z) (sym whole)

-- one character more
pub escaped_on : (out before old whole text rest : List ℕ) (c : ℕ) → before ++ flat_map escaped_byte text ≡ whole → text ≡ encode_utf8 c ++ rest → out ≡ before ++ flat_map escaped_byte (encode_utf8 c) → out ++ flat_map escaped_byte rest ≡ whole
escaped_on out before old whole text rest c h t e =
    ap (λ z. z ++ flat_map escaped_byte rest) e ∙ append_assoc before (flat_map escaped_byte (encode_utf8 c)) (flat_map escaped_byte rest)
    ∙ ap (λ z. before ++ z) (sym (flat_map-append escaped_byte (encode_utf8 c) rest)) ∙ ap (λ z. before ++ flat_map escaped_byte z) (sym t) ∙ h

pub extends_more : (old before new : List ℕ) → Extends old before → Extends before new → Extends old new
extends_more old before new h k = (h.0 ++ k.0, k.1 ∙ ap (λ z. z ++ k.0) h.1 ∙ append_assoc old h.0 k.0)

-- an element by its form
pub written_plain : (first : Bool) (x : List ℕ) → form_of first x ≡ Plain → written first x ≡ x
unfolding written
written_plain first x e = ap (λ f. in_form f (is_comment first x) x) e

pub written_braced : (first : Bool) (x : List ℕ) → form_of first x ≡ Braced → written first x ≡ 123 ∷ (x ++ 125 ∷ [])
unfolding written
written_braced first x e = ap (λ f. in_form f (is_comment first x) x) e

pub written_escaped : (first : Bool) (x : List ℕ) → form_of first x ≡ Escaped → written first x ≡ hash_mark (is_comment first x) ++ flat_map escaped_byte x
unfolding written
written_escaped first x e = ap (λ f. in_form f (is_comment first x) x) e

pub braced_bytes : (old one two x t : List ℕ) → one ≡ old ++ encode_utf8 123 → two ≡ one ++ x → t ≡ 123 ∷ (x ++ 125 ∷ []) → two ++ encode_utf8 125 ≡ old ++ t
braced_bytes old one two x t a b e =
    let start : one ≡ old ++ 123 ∷ [] = a ∙ ap (λ z. old ++ z) (encode_ascii 123 (omega arith)) in
    let inside : two ≡ (old ++ 123 ∷ []) ++ x = b ∙ ap (λ z. z ++ x) start in
    (λ i. inside i ++ encode_ascii 125 (omega arith) i) ∙ append_assoc (old ++ 123 ∷ []) x (125 ∷ []) ∙ append_assoc old (123 ∷ []) (x ++ 125 ∷ []) ∙ ap (λ z. old ++ z) (sym e)

pub escaped_bytes : (old one mark x t : List ℕ) → one ≡ old ++ mark → t ≡ mark ++ x → one ++ x ≡ old ++ t
escaped_bytes old one mark x t a e = ap (λ z. z ++ x) a ∙ append_assoc old mark x ∙ ap (λ z. old ++ z) (sym e)

-- lengths
pub count_cons : (b : ℕ) (s : List ℕ) → count_by is_special (b ∷ s) ≡ cond (is_special b) 1 0 + count_by is_special s
count_cons b s = sum_by-cons (λ x. cond (is_special x) 1 0) b s

one_or_two : (t : Bool) (b l : ℕ) → length (cond t (92 ∷ l ∷ []) (b ∷ [])) ≡ 1 + cond t 1 0
one_or_two true b l = refl
one_or_two false b l = refl

add_up : (whole own rest n k c i : ℕ) → whole ≡ own + rest → own ≡ 1 + c → rest ≡ n + k → i ≡ c + k → whole ≡ suc n + i
add_up whole own rest n k c i h e f g = omega arith

pub escaped_len : (x : List ℕ) → length (flat_map escaped_byte x) ≡ length x + count_by is_special x
escaped_len [] = refl
escaped_len (b ∷ s) =
    add_up _ _ _ (length s) _ _ _ (length-append (escaped_byte b) (flat_map escaped_byte s)) (one_or_two (is_special b) b (letter_of b)) (escaped_len s) (count_cons b s)

pub plain_len : (first : Bool) (x : List ℕ) → form_of first x ≡ Plain → length x ≡ length (written first x)
plain_len first x e = ap length (sym (written_plain first x e))

pub braced_len : (first : Bool) (x : List ℕ) → form_of first x ≡ Braced → length x + 2 ≡ length (written first x)
braced_len first x e = let w = ap length (written_braced first x e) in omega (arith, length-append x (125 ∷ []))

pub marked_len : (first : Bool) (x : List ℕ) (hash specials : ℕ) → form_of first x ≡ Escaped → hash ≡ length (hash_mark (is_comment first x)) → specials ≡ count_by is_special x → hash + length x + specials ≡ length (written first x)
marked_len first x hash specials e h k =
    let w = ap length (written_escaped first x e) in
    omega (arith, length-append (hash_mark (is_comment first x)) (flat_map escaped_byte x), escaped_len x)
