-- A turn over the characters of a text.
use Rattle.std.proofs.Common.{◌≡◌, ℕ, ◌+◌, true, false, List, [], ◌∷◌, ◌++◌, take, drop, sym, ◌∙◌, ap, zero, suc, arith, Option, Some, None, append-nil, append_assoc, add-one}
use Rattle.std.specs.Prelude.{is_some, MatchOption}
use Rattle.std.specs.Str.{chars, encode_utf8_all, all_scalars, IsUtf8}
use Rattle.std.specs.Char.{encode_utf8}
use Rattle.std.proofs.lemmas.Grind.{common_steps}
use Rattle.std.proofs.lemmas.Str.{IsUtf8-past_char, chars_past_char, cons_from_encodes, IsUtf8-append, chars-append, chars-encodes}

one_more : (cs t : List ℕ) (n c : ℕ) → drop n cs ≡ c ∷ t → (take n cs ++ c ∷ [] ≡ take (suc n) cs) × (drop (suc n) cs ≡ t)
one_more [] t n c e = let x : [] ≡ c ∷ t = grind (arith, common_steps, e) in cc
one_more (d ∷ cs) t zero c e = let x : d ∷ cs ≡ c ∷ t = e in (cc, cc)
one_more (d ∷ cs) t (suc n) c e =
    let h = one_more cs t n c e in
    (ap (λ l. d ∷ l) h.0, h.1)

-- what is known of a text that was cut after so many characters
pub record Cut (text front rest : List ℕ) (count : ℕ) : Type 0 where
  pub utf8 : IsUtf8 rest
  pub left : chars rest ≡ drop count (chars text)
  pub whole : IsUtf8 front
  pub cut : text ≡ front ++ rest
  pub first : chars front ≡ take count (chars text)

pub turn : (text front old new : List ℕ) (count c : ℕ) → Cut text front old count → old ≡ encode_utf8 c ++ new → Cut text (front ++ encode_utf8 c) new (count + 1)
turn text front old new count c k e =
    let past = chars_past_char old new c k.utf8 e in
    let more = one_more (chars text) (chars new) count c (sym k.left ∙ past) in
    let split = cons_from_encodes k.utf8.0 new c (k.utf8.1.1 ∙ e) in
    let scalars : all_scalars (c ∷ split.0) ≡ true = ap all_scalars (sym split.1) ∙ k.utf8.1.0 in
    let one : all_scalars (c ∷ []) ≡ true = grind arith in
    let letter : encode_utf8_all (c ∷ []) ≡ encode_utf8 c = append-nil (encode_utf8 c) in
    let utf8 : IsUtf8 (encode_utf8 c) = (c ∷ [], (one, letter)) in
    record {
      utf8 = IsUtf8-past_char old new c k.utf8 e;
      left = sym more.1 ∙ ap (λ m. drop m (chars text)) (sym (add-one count));
      whole = IsUtf8-append front (encode_utf8 c) k.whole utf8;
      cut = k.cut ∙ ap (λ l. front ++ l) e ∙ sym (append_assoc front (encode_utf8 c) new);
      first = chars-append front (encode_utf8 c) k.whole ∙ (λ i. k.first i ++ (ap chars (sym letter) ∙ chars-encodes (c ∷ []) one) i) ∙ more.0 ∙ ap (λ m. take m (chars text)) (sym (add-one count));
    }

-- the character that a call of `next` took
pub some_turn : (r : Option ℕ) (old new : List ℕ) (None_case : Type 0) → MatchOption r None_case (λ c. old ≡ encode_utf8 c ++ new) → is_some r ≡ true → (c : ℕ) × (old ≡ encode_utf8 c ++ new)
some_turn None old new n h e = let x : false ≡ true = e in cc
some_turn (Some c) old new n h e = (c, h)
