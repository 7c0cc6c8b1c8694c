-- The characters of a text, counted by the bytes that begin one.
use Rattle.std.proofs.Common.{◌≡◌, ℕ, ◌+◌, ◌<◌, ◌≤◌, cond, true, false, List, [], ◌∷◌, ◌++◌, length, take, drop, get_or, refl, sym, ◌∙◌, ap, arith, ◌⊎◌, inl, inr, take-append-drop, take_all, drop_of_length-le, length-take, length-drop, ◌-◌}
use Rattle.std.specs.Prelude.{count_by}
use Rattle.std.specs.Str.{chars, IsUtf8, IsCharBoundary, encode_utf8_all, all_scalars}
use Rattle.std.specs.Char.{encode_utf8}
use Rattle.std.proofs.lemmas.Bool.Decides.{nat_tests}
use Rattle.std.proofs.lemmas.List.{take_at, drop_at, drop-take, take-take}
use Rattle.std.proofs.lemmas.List.Sums.{sum_by-cons, sum_by-append, sum_by-take-drop, count_by-le-length}
use Rattle.std.proofs.lemmas.Str.{encodes-chars, scalars-chars, chars-append, chars-nil, IsUtf8-take}
use Rattle.std.proofs.str.Laws.{Shape, of1, of2, of3, of4, shape, both}
use lib.Utf8.{scalar, scalars, scalar_cases}
use Rattle.tcl_characters.specs.Starts.{begins_character}

abbrev pub starts : List ℕ → ℕ
starts bs = count_by begins_character bs

pub begins_first : (b : ℕ) → (b < 128) ⊎ (192 ≤ b) → begins_character b ≡ true
begins_first b (inl h) = grind (arith, nat_tests)
begins_first b (inr h) = grind (arith, nat_tests)

pub begins_none : (b : ℕ) → 128 ≤ b → b < 192 → begins_character b ≡ false
begins_none b l h = grind (arith, nat_tests)

one_more : (b : ℕ) (bs : List ℕ) → begins_character b ≡ true → starts (b ∷ bs) ≡ 1 + starts bs
one_more b bs e = sum_by-cons (λ x. cond (begins_character x) 1 0) b bs ∙ ap (λ y. cond y 1 0 + starts bs) e

no_more : (b : ℕ) (bs : List ℕ) → 128 ≤ b → b < 192 → starts (b ∷ bs) ≡ starts bs
no_more b bs l h = sum_by-cons (λ x. cond (begins_character x) 1 0) b bs ∙ ap (λ y. cond y 1 0 + starts bs) (begins_none b l h) ∙ omega arith

-- in the bytes of a character one begins
starts-encode : (c : ℕ) → Shape c → starts (encode_utf8 c) ≡ 1
starts-encode c (of1 l e) = ap starts e ∙ one_more c [] (begins_first c (inl l))
starts-encode c (of2 a b l h f s e) =
    let one = one_more a (b ∷ []) (begins_first a (inr l)) in
    let two = no_more b [] f.0 f.1 in
    ap starts e ∙ one ∙ ap (λ n. 1 + n) two
starts-encode c (of3 a b d l h f g s e) =
    let one = one_more a (b ∷ d ∷ []) (begins_first a (inr (omega arith))) in
    let two = no_more b (d ∷ []) f.0 f.1 in
    let three = no_more d [] g.0 g.1 in
    ap starts e ∙ one ∙ ap (λ n. 1 + n) (two ∙ three)
starts-encode c (of4 a b d x l h f g k s e) =
    let one = one_more a (b ∷ d ∷ x ∷ []) (begins_first a (inr (omega arith))) in
    let two = no_more b (d ∷ x ∷ []) f.0 f.1 in
    let three = no_more d (x ∷ []) g.0 g.1 in
    let four = no_more x [] k.0 k.1 in
    ap starts e ∙ one ∙ ap (λ n. 1 + n) (two ∙ three ∙ four)

starts-encodes : (cs : List ℕ) → all_scalars cs ≡ true → starts (encode_utf8_all cs) ≡ length cs
starts-encodes [] s = refl
starts-encodes (c ∷ cs) s =
    let parts = both (scalar c) (scalars cs) s in
    let one = starts-encode c (shape c (scalar_cases c parts.0)) in
    let rest = starts-encodes cs parts.1 in
    let sum = sum_by-append (λ x. cond (begins_character x) 1 0) (encode_utf8 c) (encode_utf8_all cs) in
    omega (arith, one, rest, sum)

-- as many characters as bytes that begin one
pub starts-chars : (text : List ℕ) → IsUtf8 text → starts text ≡ length (chars text)
starts-chars text u = ap starts (sym (encodes-chars text u)) ∙ starts-encodes (chars text) (scalars-chars text u)

-- a place that so many characters stand before
pub record StandsBehind (text : List ℕ) (count at : ℕ) : Type 0 where
  pub cut : IsCharBoundary text at
  pub front : chars (take at text) ≡ take count (chars text)
  pub rest : chars (drop at text) ≡ drop count (chars text)

-- a character begins there, and so many begin before it
pub behind_starts : (text : List ℕ) (count at : ℕ) → IsUtf8 text → at < length text → begins_character (get_or text at 0) ≡ true → starts (take at text) ≡ count → StandsBehind text count at
behind_starts text count at u lt is e =
    let cut : IsCharBoundary text at = (omega arith, λ l high. lead (get_or text at 0) is high) in
    let front = IsUtf8-take text at u cut in
    let whole : chars text ≡ chars (take at text) ++ chars (drop at text) = ap chars (sym (take-append-drop at text)) ∙ chars-append (take at text) (drop at text) front in
    let size : length (chars (take at text)) ≡ count = sym (starts-chars (take at text) front) ∙ e in
    record {
      cut = cut;
      front = sym (ap (take count) whole ∙ take_at (chars (take at text)) (chars (drop at text)) count size);
      rest = sym (ap (drop count) whole ∙ drop_at (chars (take at text)) (chars (drop at text)) count size);
    }
  where
    lead : (b : ℕ) → begins_character b ≡ true → 128 ≤ b → 192 ≤ b
    lead b h high = grind (arith, nat_tests)

-- no more than so many begin in the whole text
pub behind_all : (text : List ℕ) (count at : ℕ) → IsUtf8 text → at ≡ length text → starts (take at text) ≤ count → StandsBehind text count at
behind_all text count at u e le =
    let whole : take at text ≡ text = take_all at text (omega arith) in
    let few : length (chars text) ≤ count = omega (arith, starts-chars text u, ap starts whole) in
    record {
      cut = (omega arith, λ l _. absurd (omega arith));
      front = ap chars whole ∙ sym (take_all count (chars text) few);
      rest = ap chars (drop_of_length-le text {i = at} (omega arith)) ∙ chars-nil ∙ sym (drop_of_length-le (chars text) {i = count} few);
    }

-- the bytes before a place, and those behind it
pub starts-split : (bs : List ℕ) (at : ℕ) → starts (take at bs) + starts (drop at bs) ≡ starts bs
starts-split bs at = sum_by-take-drop (λ x. cond (begins_character x) 1 0) bs at

-- a block more
pub starts-block : (bs : List ℕ) (at size : ℕ) → starts (take (at + size) bs) ≡ starts (take at bs) + starts (take size (drop at bs))
starts-block bs at size =
    let cut = starts-split (take (at + size) bs) at in
    let front : take at (take (at + size) bs) ≡ take at bs = take-take at (at + size) bs (omega arith) in
    omega (arith, cut, ap starts front, ap starts (drop-take at size bs))

pub starts-le-length : (bs : List ℕ) → starts bs ≤ length bs
starts-le-length bs = count_by-le-length begins_character bs

-- a block from a place on, and all the bytes from there
pub starts-range : (bs : List ℕ) (at size : ℕ) → starts (take at bs) + starts (take (at + size - at) (drop at bs)) ≡ starts (take (at + size) bs)
starts-range bs at size =
    let same : at + size - at ≡ size = omega arith in
    ap (λ n. starts (take at bs) + starts (take n (drop at bs))) same ∙ sym (starts-block bs at size)

pub starts-rest : (bs : List ℕ) (at : ℕ) → starts (take at bs) + starts (take (length bs - at) (drop at bs)) ≡ starts bs
starts-rest bs at =
    let size = length-drop at bs in
    ap (λ r. starts (take at bs) + starts r) (take_all (length bs - at) (drop at bs) (omega arith)) ∙ starts-split bs at

pub few-starts : (bs : List ℕ) (at size : ℕ) → starts (take (at + size - at) (drop at bs)) ≤ size
few-starts bs at size =
    let part = take (at + size - at) (drop at bs) in
    omega (arith, starts-le-length part, length-take (at + size - at) (drop at bs))

-- the same of the text's bytes, with so many characters still to come
pub behind_left : (text bytes : List ℕ) (count at left : ℕ) → bytes ≡ text → IsUtf8 text → at < length bytes → begins_character (get_or bytes at 0) ≡ true → starts (take at bytes) + left ≡ count → left ≡ 0 → StandsBehind text count at
behind_left text bytes count at left e u lt is sum none =
    let size = ap length e in
    let before : starts (take at bytes) ≡ count = omega arith in
    behind_starts text count at u (omega arith) (ap (λ t. begins_character (get_or t at 0)) (sym e) ∙ is) (ap (λ t. starts (take at t)) (sym e) ∙ before)

pub all_behind : (text bytes : List ℕ) (count at left : ℕ) → bytes ≡ text → IsUtf8 text → at ≡ length bytes → starts (take at bytes) + left ≡ count → StandsBehind text count at
all_behind text bytes count at left e u end sum =
    let same = ap (λ t. starts (take at t)) e in
    behind_all text count at u (end ∙ ap length e) (omega arith)
