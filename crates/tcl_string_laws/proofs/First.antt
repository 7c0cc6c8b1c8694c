-- The first place of a needle.
use Rattle.std.proofs.Common.{◌≡◌, ℕ, suc, ◌+◌, ◌<◌, ◌≤◌, Bool, true, false, cond, List, [], ◌∷◌, ◌++◌, length, take, drop, Option, Some, None, refl, sym, ◌∙◌, ap, subst, arith, append_assoc, length-append}
use Rattle.std.specs.Prelude.{MatchOption}
use Rattle.std.proofs.lemmas.Bool.{false≢true}
use Rattle.std.proofs.lemmas.List.{take-append-drop, length-take-le, drop-append-le, length-drop}
use Rattle.tcl_characters.specs.Places.{StandsAt, begins, first_from, first_place}
use Rattle.tcl_characters.proofs.StandLemmas.{begins_split, begins_append, Absent, NoShorter}
use Rattle.tcl_string_laws.specs.Places.{IsFirst}

-- the shortest front behind which the needle stands
pub record Shortest (needle cs : List ℕ) (k j : ℕ) : Type 0 where
  pub front : List ℕ
  pub rest : List ℕ
  pub whole : cs ≡ front ++ (needle ++ rest)
  pub place : j ≡ k + length front
  pub none_shorter : NoShorter needle cs (length front)

abbrev pub Says : List ℕ → List ℕ → ℕ → Option ℕ → Type 0
Says needle cs k r = MatchOption r (Absent needle cs) (λ j. Shortest needle cs k j)

pub nowhere : (d : ℕ) (needle : List ℕ) → Absent (d ∷ needle) []
nowhere d needle front rest e = omega (arith, ap length e, length-append front ((d ∷ needle) ++ rest))

pub tail_of : (needle cs front rest : List ℕ) (c f : ℕ) → c ∷ cs ≡ (f ∷ front) ++ (needle ++ rest) → cs ≡ front ++ (needle ++ rest)
tail_of needle cs front rest c f e = cc

pub not_here : (needle cs rest : List ℕ) → begins needle cs ≡ false → cs ≡ needle ++ rest → ⊥
not_here needle cs rest out e = false≢true (sym out ∙ ap (begins needle) e ∙ begins_append needle rest)

pub absent_more : (needle cs : List ℕ) (c : ℕ) → begins needle (c ∷ cs) ≡ false → Absent needle cs → Absent needle (c ∷ cs)
absent_more needle cs c out none [] rest e = not_here needle (c ∷ cs) rest out e
absent_more needle cs c out none (f ∷ front) rest e = none front rest (tail_of needle cs front rest c f e)

shorter_more : (needle cs : List ℕ) (c n : ℕ) → begins needle (c ∷ cs) ≡ false → NoShorter needle cs n → NoShorter needle (c ∷ cs) (suc n)
shorter_more needle cs c n out none [] rest e l = not_here needle (c ∷ cs) rest out e
shorter_more needle cs c n out none (f ∷ front) rest e l = none front rest (tail_of needle cs front rest c f e) (omega arith)

-- none stands here: it is as behind this character
behind_here : (needle cs : List ℕ) (c k : ℕ) (r : Option ℕ) → begins needle (c ∷ cs) ≡ false → Says needle cs (suc k) r → Says needle (c ∷ cs) k r
behind_here needle cs c k None out h = absent_more needle cs c out h
behind_here needle cs c k (Some j) out h = record {
  front = c ∷ h.front;
  rest = h.rest;
  whole = ap (λ x. c ∷ x) h.whole;
  place = omega (arith, h.place);
  none_shorter = shorter_more needle cs c (length h.front) out h.none_shorter;
}

here : (needle cs : List ℕ) (k : ℕ) → begins needle cs ≡ true → Shortest needle cs k k
here needle cs k e =
    let s = begins_split needle cs e in
    record { front = []; rest = s.0; whole = s.1; place = omega arith; none_shorter = λ front rest f l. omega arith }

says : (d : ℕ) (needle cs : List ℕ) (k : ℕ) → Says (d ∷ needle) cs k (first_from (d ∷ needle) cs k)
says d needle [] k = nowhere d needle
says d needle (c ∷ cs) k = by_test (begins (d ∷ needle) (c ∷ cs)) refl (says d needle cs (suc k))
  where
    by_test : (t : Bool) → begins (d ∷ needle) (c ∷ cs) ≡ t → Says (d ∷ needle) cs (suc k) (first_from (d ∷ needle) cs (suc k)) → Says (d ∷ needle) (c ∷ cs) k (cond t (Some k) (first_from (d ∷ needle) cs (suc k)))
    by_test true e more = here (d ∷ needle) (c ∷ cs) k e
    by_test false e more = behind_here (d ∷ needle) cs c k (first_from (d ∷ needle) cs (suc k)) e more

-- ---- behind a start

-- a needle behind the start stands in what follows the start
behind_start : (needle cs : List ℕ) (start j : ℕ) → start ≤ j → StandsAt needle cs j → (front : List ℕ) × (rest : List ℕ) × (drop start cs ≡ front ++ (needle ++ rest)) × (start + length front ≡ j)
behind_start needle cs start j h s =
    let front = s.front in
    let before : length front ≡ j = s.before in
    let fits : start ≤ length front = omega arith in
    (drop start front, s.rest, ap (drop start) s.whole ∙ drop-append-le start front (needle ++ s.rest) fits, omega (arith, length-drop start front))

in_front : (d : ℕ) (needle cs front rest : List ℕ) (start : ℕ) → drop start cs ≡ front ++ ((d ∷ needle) ++ rest) → StandsAt (d ∷ needle) cs (start + length front)
in_front d needle cs front rest start e =
    let size = length-drop start cs in
    let sum = ap length e in
    let parts = length-append front ((d ∷ needle) ++ rest) in
    let some : length ((d ∷ needle) ++ rest) ≡ suc (length (needle ++ rest)) = refl in
    let fits : start ≤ length cs = omega arith in
    record {
      front = take start cs ++ front;
      rest = rest;
      whole = sym (take-append-drop start cs) ∙ ap (λ x. take start cs ++ x) e ∙ sym (append_assoc (take start cs) front ((d ∷ needle) ++ rest));
      before = omega (arith, length-append (take start cs) front, length-take-le start cs fits);
    }

at_least : (k j : ℕ) → (j < k → ⊥) → k ≤ j
at_least k j not_less = omega arith

pub first_of_some : (d : ℕ) (needle cs : List ℕ) (start : ℕ) → MatchOption (first_from (d ∷ needle) (drop start cs) start) ((j : ℕ) → start ≤ j → StandsAt (d ∷ needle) cs j → ⊥) (IsFirst (d ∷ needle) cs start)
first_of_some d needle cs start = by_found (first_from (d ∷ needle) (drop start cs) start) (says d needle (drop start cs) start)
  where
    by_found : (r : Option ℕ) → Says (d ∷ needle) (drop start cs) start r → MatchOption r ((j : ℕ) → start ≤ j → StandsAt (d ∷ needle) cs j → ⊥) (IsFirst (d ∷ needle) cs start)
    by_found None none = λ j h s. let b = behind_start (d ∷ needle) cs start j h s in none b.0 b.1 b.2
    by_found (Some k) found =
        let place : k ≡ start + length found.front = found.place in
        record {
          stands = subst (StandsAt (d ∷ needle) cs) (sym place) (in_front d needle cs found.front found.rest start found.whole);
          from = omega arith;
          least = λ j h s.
              let b = behind_start (d ∷ needle) cs start j h s in
              at_least k j (λ (l : j < k). found.none_shorter b.0 b.1 b.2 (omega (arith, b.3)));
        }

pub first_places : (needle cs : List ℕ) (start : ℕ) → (needle ≡ [] → ⊥) → MatchOption (first_place needle cs start) ((j : ℕ) → start ≤ j → StandsAt needle cs j → ⊥) (IsFirst needle cs start)
first_places [] cs start some = absurd (some refl)
first_places (d ∷ needle) cs start some = first_of_some d needle cs start
