-- A backslash sequence by the first character behind the backslash.
use Rattle.std.proofs.Common.{◌≡◌, ℕ, ◌+◌, ◌/◌, ◌<◌, ◌≤◌, true, List, [], ◌∷◌, ◌++◌, length, take, drop, refl, sym, ◌∙◌, ap, subst, inl, inr, arith, take_at, drop_at}
use Rattle.std.specs.Char.{encode_utf8, is_digit}
use Rattle.std.proofs.lemmas.Bool.{cases_lt, lt-ltb, le-ltb}
use Rattle.std.proofs.lemmas.Bool.Decides.{nat_tests}
use Rattle.std.proofs.lemmas.Str.{encode_ascii}
use Rattle.std.specs.List.{prefix_len}
use Rattle.std.proofs.Common.{Bool, false, cond, suc, ◌==◌, length-take}
use Rattle.std.proofs.lemmas.List.Sums.{prefix_len-le-length}
use Rattle.tcl_text.proofs.Fronts.{number_len-le}
use Rattle.tcl_text.specs.Backslash.{is_blank, hexadecimal, Escape, escape, escape_of, escape_by, escape_rest, first_len, character, number_value, number_len}

-- a character that begins none of the sequences of its own
pub escape_by-other : (b : ℕ) (s : List ℕ) (itself : Escape) → 128 ≤ b → escape_by b s itself ≡ itself
escape_by-other b s itself h = grind (arith, nat_tests)

ascii_len : (b : ℕ) → b < 128 → first_len b ≡ 1
ascii_len b h = grind (arith, nat_tests)

-- an ASCII character
pub escape_ascii : (text rest : List ℕ) (c : ℕ) (e : Escape) → text ≡ encode_utf8 c ++ rest → c < 128 → escape_by c rest (escape_of (c ∷ []) 1) ≡ e → (text ≡ c ∷ rest) × (escape text ≡ e)
unfolding escape
escape_ascii text rest c e t small is =
    let split : text ≡ c ∷ rest = t ∙ ap (λ x. x ++ rest) (encode_ascii c small) in
    let one = ascii_len c small in
    let by : escape (c ∷ rest) ≡ escape_by c rest (escape_of (c ∷ []) 1) = ap (λ n. escape_by c rest (escape_of (take n (c ∷ rest)) (length (take n (c ∷ rest))))) one in
    (split, ap escape split ∙ by ∙ is)

-- what a function returns for it
pub record Returns (text meaning rest : List ℕ) : Type 0 where
  pub meaning_is : meaning ≡ (escape text).meaning
  pub rest_is : rest ≡ escape_rest text

pub letter : (text rest : List ℕ) (c m : ℕ) → text ≡ encode_utf8 c ++ rest → c < 128 → m < 128 → escape_by c rest (escape_of (c ∷ []) 1) ≡ escape_of (m ∷ []) 1 → Returns text (encode_utf8 m) rest
letter text rest c m t small plain is =
    let e = escape_ascii text rest c _ t small is in
    record {
      meaning_is = encode_ascii m plain ∙ sym (ap (λ (x : Escape). x.meaning) e.1);
      rest_is = sym (ap (λ (x : Escape). drop x.taken text) e.1 ∙ ap (drop 1) e.0);
    }

-- a letter with what follows it
pub longer : (text rest meaning after : List ℕ) (c : ℕ) (e : Escape) → text ≡ encode_utf8 c ++ rest → c < 128 → escape_by c rest (escape_of (c ∷ []) 1) ≡ e → meaning ≡ e.meaning → after ≡ drop e.taken (c ∷ rest) → Returns text meaning after
longer text rest meaning after c e t small is m r =
    let h = escape_ascii text rest c _ t small is in
    record {
      meaning_is = m ∙ sym (ap (λ (x : Escape). x.meaning) h.1);
      rest_is = r ∙ sym (ap (λ (x : Escape). drop x.taken text) h.1 ∙ ap (drop e.taken) h.0);
    }

-- how a text that was taken from by `next` begins
pub begins : (all text whole front rest left : List ℕ) → whole ≡ text → whole ≡ front ++ left → rest ≡ left → text ≡ front ++ rest
begins all text whole front rest left a b c = sym a ∙ b ∙ ap (λ x. front ++ x) (sym c)

pub begins_with : (text rest : List ℕ) (first c : ℕ) → text ≡ encode_utf8 first ++ rest → first ≡ c → text ≡ encode_utf8 c ++ rest
begins_with text rest first c e is = e ∙ ap (λ x. encode_utf8 x ++ rest) is

pub nothing_left : (text : List ℕ) → length text ≡ 0 → text ≡ []
nothing_left [] e = refl
nothing_left (b ∷ s) e = absurd (omega arith)

pub lone : (text : List ℕ) → text ≡ [] → Returns text (encode_utf8 92) text
unfolding escape
lone text e = record {
  meaning_is = encode_ascii 92 (omega arith) ∙ ap (λ x. (escape x).meaning) (sym e);
  rest_is = e ∙ ap escape_rest (sym e);
}

-- a character of two bytes or more, by its bytes
long_by : (b n : ℕ) (own rest : List ℕ) → 128 ≤ b → first_len b ≡ n → length (b ∷ own) ≡ n → Returns ((b ∷ own) ++ rest) (b ∷ own) rest
unfolding escape
long_by b n own rest high len is =
    let own_is : List ℕ = take (first_len b) ((b ∷ own) ++ rest) in
    let whole = escape_by-other b (own ++ rest) (escape_of own_is (length own_is)) high in
    let front : take (first_len b) ((b ∷ own) ++ rest) ≡ b ∷ own = take_at (b ∷ own) rest (first_len b) (is ∙ sym len) in
    let back : drop (length (take (first_len b) ((b ∷ own) ++ rest))) ((b ∷ own) ++ rest) ≡ rest = ap (λ k. drop (length k) ((b ∷ own) ++ rest)) front ∙ drop_at (b ∷ own) rest (length (b ∷ own)) refl in
    record {
      meaning_is = sym (ap (λ (x : Escape). x.meaning) whole ∙ front);
      rest_is = sym (ap (λ (x : Escape). drop x.taken ((b ∷ own) ++ rest)) whole ∙ back);
    }

two : (b : ℕ) → 192 ≤ b → b < 224 → first_len b ≡ 2
two b low high = grind (arith, nat_tests)

three : (b : ℕ) → 224 ≤ b → b < 240 → first_len b ≡ 3
three b low high = grind (arith, nat_tests)

four : (b : ℕ) → 240 ≤ b → first_len b ≡ 4
four b low = grind (arith, nat_tests)

pub long : (c : ℕ) (rest : List ℕ) → 128 ≤ c → Returns (encode_utf8 c ++ rest) (encode_utf8 c) rest
unfolding encode_utf8
long c rest high =
    rw (le-ltb c 128 high)
    (elim (cases_lt c 2048) [
      | inl low ↦ rw (lt-ltb c 2048 low) (long_by (192 + c / 64) 2 _ rest (omega arith) (two (192 + c / 64) (omega arith) (omega arith)) refl)
      | inr more ↦
          rw (le-ltb c 2048 more)
          (elim (cases_lt c 65536) [
            | inl low ↦ rw (lt-ltb c 65536 low) (long_by (224 + c / 4096) 3 _ rest (omega arith) (three (224 + c / 4096) (omega arith) (omega arith)) refl)
            | inr most ↦ rw (le-ltb c 65536 most) (long_by (240 + c / 262144) 4 _ rest (omega arith) (four (240 + c / 262144) (omega arith)) refl)
          ])
    ])

-- a character that begins none of the sequences stands for itself
pub other : (text rest : List ℕ) (c : ℕ) → text ≡ encode_utf8 c ++ rest → ((itself : Escape) → escape_by c rest itself ≡ itself) → Returns text (encode_utf8 c) rest
other text rest c t is =
    elim (cases_lt c 128) [
      | inl low ↦ letter text rest c c t low low (is (escape_of (c ∷ []) 1))
      | inr high ↦ subst (λ x. Returns x (encode_utf8 c) rest) (sym t) (long c rest high)
    ]

pub octal_is_ascii : (c : ℕ) → is_digit c 8 ≡ true → c < 128
octal_is_ascii c e = grind (arith, nat_tests)

-- an octal number
pub octal : (text rest : List ℕ) (c : ℕ) → text ≡ encode_utf8 c ++ rest → c < 128 → is_digit c 8 ≡ true →
    Returns text (encode_utf8 (character (number_value 3 8 255 text))) (drop (number_len 3 8 255 text) text)
octal text rest c t small digit =
    let e : Escape = escape_of (encode_utf8 (character (number_value 3 8 255 (c ∷ rest)))) (number_len 3 8 255 (c ∷ rest)) in
    let h = escape_ascii text rest c e t small (rw digit refl) in
    let same = ap (λ x. escape_of (encode_utf8 (character (number_value 3 8 255 x))) (number_len 3 8 255 x)) h.0 in
    let is : escape_of (encode_utf8 (character (number_value 3 8 255 text))) (number_len 3 8 255 text) ≡ escape text = same ∙ sym h.1 in
    record { meaning_is = ap (λ (x : Escape). x.meaning) is; rest_is = ap (λ (x : Escape). drop x.taken text) is }

within : (n : ℕ) (t : Bool) (x y : Escape) → x.taken ≤ n → y.taken ≤ n → (cond t x y).taken ≤ n
within n true x y a b = a
within n false x y a b = b

hexadecimal-taken : (letter width greatest : ℕ) (s : List ℕ) → (hexadecimal letter width greatest s).taken ≤ suc (length s)
hexadecimal-taken letter width greatest s =
    within (suc (length s)) (number_len width 16 greatest s == 0) _ _ (omega arith) (omega (arith, (number_len-le 16 greatest width s).1))

-- a sequence is a part of the text
pub escape-taken : (s : List ℕ) → (escape s).taken ≤ length s
unfolding escape
escape-taken [] = omega arith
escape-taken (b ∷ s) =
    let n : ℕ = suc (length s) in
    let one : 1 ≤ suc (length s) = omega arith in
    let blanks : suc (prefix_len is_blank s) ≤ suc (length s) = omega (arith, prefix_len-le-length is_blank s) in
    let own : length (take (first_len b) (b ∷ s)) ≤ suc (length s) = omega (arith, length-take (first_len b) (b ∷ s)) in
    within n (is_digit b 8) _ _ (number_len-le 8 255 3 (b ∷ s)).1
    (within n (b == 97) _ _ one
    (within n (b == 98) _ _ one
    (within n (b == 102) _ _ one
    (within n (b == 110) _ _ one
    (within n (b == 114) _ _ one
    (within n (b == 116) _ _ one
    (within n (b == 118) _ _ one
    (within n (b == 10) _ _ blanks
    (within n (b == 120) _ _ (hexadecimal-taken 120 2 255 s)
    (within n (b == 117) _ _ (hexadecimal-taken 117 4 0xFFFF s)
    (within n (b == 85) _ _ (hexadecimal-taken 85 8 0x10_FFFF s) own)))))))))))
