-- The last place of a needle.
use Rattle.std.proofs.Common.{◌≡◌, ℕ, suc, ◌+◌, ◌-◌, ◌<◌, ◌≤◌, Bool, true, false, cond, List, [], ◌∷◌, ◌++◌, length, take, drop, Option, Some, None, refl, sym, ◌∙◌, ap, subst, arith, append_assoc, length-append}
use Rattle.std.specs.Prelude.{MatchOption}
use Rattle.std.proofs.lemmas.List.{take-append-drop, length-take}
use Rattle.std.proofs.Math.Seq.{take-append-add}
use Rattle.tcl_characters.specs.Places.{StandsAt, begins, last_from, later, last_place}
use Rattle.tcl_characters.proofs.StandLemmas.{begins_split, Absent, NoLonger}
use Rattle.tcl_string_laws.specs.Places.{IsLast}
use Rattle.tcl_string_laws.proofs.First.{nowhere, tail_of, absent_more}

-- the longest front behind which the needle stands
pub record Longest (needle cs : List ℕ) (k j : ℕ) : Type 0 where
  pub front : List ℕ
  pub rest : List ℕ
  pub whole : cs ≡ front ++ (needle ++ rest)
  pub place : j ≡ k + length front
  pub none_longer : NoLonger needle cs (length front)

abbrev pub Says : List ℕ → List ℕ → ℕ → Option ℕ → Type 0
Says needle cs k r = MatchOption r (Absent needle cs) (λ j. Longest needle cs k j)

longer_more : (needle cs : List ℕ) (c n : ℕ) → NoLonger needle cs n → NoLonger needle (c ∷ cs) (suc n)
longer_more needle cs c n none [] rest e l = omega arith
longer_more needle cs c n none (f ∷ front) rest e l = none front rest (tail_of needle cs front rest c f e) (omega arith)

here_alone : (needle cs : List ℕ) (c : ℕ) → Absent needle cs → NoLonger needle (c ∷ cs) 0
here_alone needle cs c none [] rest e l = omega arith
here_alone needle cs c none (f ∷ front) rest e l = none front rest (tail_of needle cs front rest c f e)

joined : (needle cs : List ℕ) (c k : ℕ) (r : Option ℕ) (t : Bool) → begins needle (c ∷ cs) ≡ t → Says needle cs (suc k) r → Says needle (c ∷ cs) k (later r (cond t (Some k) None))
joined needle cs c k (Some j) t e h = record {
  front = c ∷ h.front;
  rest = h.rest;
  whole = ap (λ x. c ∷ x) h.whole;
  place = omega (arith, h.place);
  none_longer = longer_more needle cs c (length h.front) h.none_longer;
}
joined needle cs c k None true e h =
    let s = begins_split needle (c ∷ cs) e in
    record { front = []; rest = s.0; whole = s.1; place = omega arith; none_longer = here_alone needle cs c h }
joined needle cs c k None false e h = absent_more needle cs c e h

says : (d : ℕ) (needle cs : List ℕ) (k : ℕ) → Says (d ∷ needle) cs k (last_from (d ∷ needle) cs k)
says d needle [] k = nowhere d needle
says d needle (c ∷ cs) k = joined (d ∷ needle) cs c k (last_from (d ∷ needle) cs (suc k)) (begins (d ∷ needle) (c ∷ cs)) refl (says d needle cs (suc k))

-- ---- before an end

-- a needle before the end stands in what is before the end
before_end : (needle cs : List ℕ) (end j : ℕ) → j + length needle ≤ end → StandsAt needle cs j → (front : List ℕ) × (rest : List ℕ) × (take end cs ≡ front ++ (needle ++ rest)) × (length front ≡ j)
before_end needle cs end j h s =
    let front = s.front in
    let left = end - length (front ++ needle) in
    let before : length front ≡ j = s.before in
    let size = length-append front needle in
    let sum : length (front ++ needle) + left ≡ end = omega arith in (
      front,
      take left s.rest,
      ap (take end) (s.whole ∙ sym (append_assoc front needle s.rest)) ∙ ap (λ n. take n ((front ++ needle) ++ s.rest)) (sym sum) ∙ take-append-add (front ++ needle) s.rest left ∙ append_assoc front needle (take left s.rest),
      before,
    )

in_whole : (needle cs front rest : List ℕ) (end : ℕ) → take end cs ≡ front ++ (needle ++ rest) → StandsAt needle cs (length front) × (length front + length needle ≤ end)
in_whole needle cs front rest end e = (
  record {
    front = front;
    rest = rest ++ drop end cs;
    whole = sym (take-append-drop end cs) ∙ ap (λ x. x ++ drop end cs) e ∙ append_assoc front (needle ++ rest) (drop end cs) ∙ ap (λ x. front ++ x) (append_assoc needle rest (drop end cs));
    before = refl;
  },
  omega (arith, length-take end cs, ap length e, length-append front (needle ++ rest), length-append needle rest),
)

at_most : (k j : ℕ) → (k < j → ⊥) → j ≤ k
at_most k j not_more = omega arith

pub last_of_some : (d : ℕ) (needle cs : List ℕ) (end : ℕ) → MatchOption (last_from (d ∷ needle) (take end cs) 0) ((j : ℕ) → j + length (d ∷ needle) ≤ end → StandsAt (d ∷ needle) cs j → ⊥) (IsLast (d ∷ needle) cs end)
last_of_some d needle cs end = by_found (last_from (d ∷ needle) (take end cs) 0) (says d needle (take end cs) 0)
  where
    by_found : (r : Option ℕ) → Says (d ∷ needle) (take end cs) 0 r → MatchOption r ((j : ℕ) → j + length (d ∷ needle) ≤ end → StandsAt (d ∷ needle) cs j → ⊥) (IsLast (d ∷ needle) cs end)
    by_found None none = λ j h s. let b = before_end (d ∷ needle) cs end j h s in none b.0 b.1 b.2
    by_found (Some k) found =
        let place : k ≡ length found.front = omega (arith, found.place) in
        let whole = in_whole (d ∷ needle) cs found.front found.rest end found.whole in
        record {
          stands = subst (StandsAt (d ∷ needle) cs) (sym place) whole.0;
          within = omega (arith, whole.1);
          greatest = λ j h s.
              let b = before_end (d ∷ needle) cs end j h s in
              at_most k j (λ (l : k < j). found.none_longer b.0 b.1 b.2 (omega (arith, b.3)));
        }

pub last_places : (needle cs : List ℕ) (end : ℕ) → (needle ≡ [] → ⊥) → MatchOption (last_place needle cs end) ((j : ℕ) → j + length needle ≤ end → StandsAt needle cs j → ⊥) (IsLast needle cs end)
last_places [] cs end some = absurd (some refl)
last_places (d ∷ needle) cs end some = last_of_some d needle cs end
