-- Whether an element may stand in braces, byte by byte.
use Rattle.std.proofs.Common.{◌≡◌, ℕ, ◌+◌, ◌<◌, ◌==◌, Bool, true, false, not, ◌&&◌, ◌||◌, List, [], ◌∷◌, ◌++◌, length, take, drop, get_or, refl, sym, ◌∙◌, ap, Option, Some, None, take-append-drop}
use Rattle.std.specs.Option.{option_and_then}
use Rattle.std.proofs.lemmas.Bool.{and_right}
use Rattle.std.proofs.lemmas.List.{take_more, drop_more}
use Rattle.tcl_text.specs.declared.list.Braces.{Braces}
use Rattle.tcl_text.specs.Lists.{none_open, count, count_all}
use Rattle.tcl_text.specs.Writing.{last_byte, joins_lines, all_closed, fits_braces}

last_next : (xs : List ℕ) (p c : ℕ) → last_byte p (xs ++ c ∷ []) ≡ c
last_next [] p c = refl
last_next (b ∷ xs) p c = last_next xs b c

pub or_false : (t : Bool) → (t || false) ≡ t
or_false true = refl
or_false false = refl

pub or_assoc : (s t u : Bool) → (s || (t || u)) ≡ ((s || t) || u)
or_assoc true t u = refl
or_assoc false t u = refl

joins_next : (xs : List ℕ) (p c : ℕ) → joins_lines p (xs ++ c ∷ []) ≡ (joins_lines p xs || ((last_byte p xs == 92) && (c == 10)))
joins_next [] p c = or_false ((p == 92) && (c == 10))
joins_next (b ∷ xs) p c = ap (λ t. ((p == 92) && (b == 10)) || t) (joins_next xs b c) ∙ or_assoc ((p == 92) && (b == 10)) (joins_lines b xs) ((last_byte b xs == 92) && (c == 10))

or_kept : (s t u : Bool) → (t ≡ true → u ≡ true) → (s || t) ≡ true → (s || u) ≡ true
or_kept true t u k h = refl
or_kept false t u k h = k h

joins_kept : (xs ys : List ℕ) (p : ℕ) → joins_lines p xs ≡ true → joins_lines p (xs ++ ys) ≡ true
joins_kept [] ys p h = absurd (let e : false ≡ true = h in cc)
joins_kept (b ∷ xs) ys p h = or_kept ((p == 92) && (b == 10)) (joins_lines b xs) (joins_lines b (xs ++ ys)) (joins_kept xs ys b) h

then_fails : (go back : Braces → Option Braces) (o : Option Braces) (st : Braces) → ((n : Braces) → go n ≡ Some st → back n ≡ None) → option_and_then go o ≡ Some st → option_and_then back o ≡ None
then_fails go back None st k h = refl
then_fails go back (Some n) st k h = k n h

count_fails : (xs ys : List ℕ) (c : ℕ) (b st : Braces) → count_all xs b ≡ Some st → count st c ≡ None → count_all (xs ++ c ∷ ys) b ≡ None
unfolding count_all
count_fails [] ys c b st h e =
    let same : b ≡ st = cc in
    let at : count b c ≡ None = ap (λ y. count y c) same ∙ e in
    ap (option_and_then (count_all ys)) at
count_fails (d ∷ xs) ys c b st h e = then_fails (count_all xs) (count_all (xs ++ c ∷ ys)) (count b d) st (λ n k. count_fails xs ys c n st k e) h

split_at_byte : (x : List ℕ) (i : ℕ) → i < length x → x ≡ take i x ++ (get_or x i 0 ∷ drop (i + 1) x)
split_at_byte x i l = sym (take-append-drop i x) ∙ ap (λ t. take i x ++ t) (drop_more x i 0 l)

-- a brace that isn't open is closed
pub unbalanced : (x : List ℕ) (i : ℕ) (st : Braces) → i < length x → count_all (take i x) none_open ≡ Some st → count st (get_or x i 0) ≡ None → false ≡ fits_braces x
unbalanced x i st l h e =
    let none : count_all x none_open ≡ None = ap (λ t. count_all t none_open) (split_at_byte x i l) ∙ count_fails (take i x) (drop (i + 1) x) (get_or x i 0) none_open st h e in
    sym (ap (λ o. (all_closed o && not (last_byte 0 x == 92)) && not (joins_lines 0 x)) none)

more_joins : (x : List ℕ) (i : ℕ) → i < length x → joins_lines 0 (take (i + 1) x) ≡ (joins_lines 0 (take i x) || ((last_byte 0 (take i x) == 92) && (get_or x i 0 == 10)))
more_joins x i l = ap (joins_lines 0) (take_more x i 0 l) ∙ joins_next (take i x) 0 (get_or x i 0)

-- a backslash before a newline
pub joined : (x : List ℕ) (i : ℕ) → i < length x → ((last_byte 0 (take i x) == 92) && (get_or x i 0 == 10)) ≡ true → false ≡ fits_braces x
joined x i l here =
    let so : joins_lines 0 (take (i + 1) x) ≡ true = more_joins x i l ∙ ap (λ t. joins_lines 0 (take i x) || t) here ∙ or_true (joins_lines 0 (take i x)) in
    let whole : joins_lines 0 x ≡ true = ap (joins_lines 0) (sym (take-append-drop (i + 1) x)) ∙ joins_kept (take (i + 1) x) (drop (i + 1) x) 0 so in
    sym (and_right (all_closed (count_all x none_open) && not (last_byte 0 x == 92)) (not (joins_lines 0 x)) (ap not whole))
  where
    or_true : (t : Bool) → (t || true) ≡ true
    or_true true = refl
    or_true false = refl

pub last_at : (x : List ℕ) (i : ℕ) → i < length x → last_byte 0 (take (i + 1) x) ≡ get_or x i 0
last_at x i l = ap (last_byte 0) (take_more x i 0 l) ∙ last_next (take i x) 0 (get_or x i 0)

pub apart_at : (x : List ℕ) (i : ℕ) → i < length x → joins_lines 0 (take i x) ≡ false → ((last_byte 0 (take i x) == 92) && (get_or x i 0 == 10)) ≡ false → joins_lines 0 (take (i + 1) x) ≡ false
apart_at x i l h e = more_joins x i l ∙ rw (h, e) refl
