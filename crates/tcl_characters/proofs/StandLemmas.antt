-- Where needles stand: over characters, and over the bytes of texts.
use Rattle.std.proofs.Common.{◌≡◌, ℕ, suc, ◌+◌, ◌<◌, Bool, true, false, cond, List, [], ◌∷◌, ◌++◌, length, Some, None, refl, sym, ◌∙◌, ap, arith, add-zero}
use Rattle.std.specs.Prelude.{◌==◌, ◌&&◌}
use Rattle.std.proofs.lemmas.Bool.{false≢true}
use Rattle.std.proofs.lemmas.Bool.Decides.{Decides-eqb}
use Rattle.tcl_characters.specs.Places.{begins, first_from, last_from, later}

-- ---- over characters

and_true : (a b : Bool) → (a && b) ≡ true → (a ≡ true) × (b ≡ true)
and_true true b h = (refl, h)
and_true false b h = absurd (false≢true h)

pub begins_split : (needle cs : List ℕ) → begins needle cs ≡ true → (rest : List ℕ) × (cs ≡ needle ++ rest)
begins_split [] cs h = (cs, refl)
begins_split (n ∷ ns) [] h = absurd (false≢true h)
begins_split (n ∷ ns) (c ∷ cs) h =
    let both = and_true (n == c) (begins ns cs) h in
    let more = begins_split ns cs both.1 in
    let same : n ≡ c = (Decides-eqb n c).0 both.0 in
    (more.0, ap (λ l. c ∷ l) more.1 ∙ ap (λ d. d ∷ (ns ++ more.0)) (sym same))

pub begins_append : (needle rest : List ℕ) → begins needle (needle ++ rest) ≡ true
begins_append [] rest = refl
begins_append (n ∷ ns) rest = ap (λ t. t && begins ns (ns ++ rest)) ((Decides-eqb n n).1 refl) ∙ begins_append ns rest

-- no front of the characters stands before the needle
abbrev pub Absent : List ℕ → List ℕ → Type 0
Absent needle cs = (front rest : List ℕ) → cs ≡ front ++ (needle ++ rest) → ⊥

absent_tail : (needle cs : List ℕ) (c : ℕ) → Absent needle (c ∷ cs) → Absent needle cs
absent_tail needle cs c none front rest e = none (c ∷ front) rest (ap (λ l. c ∷ l) e)

absent_here : (needle cs : List ℕ) (t : Bool) → begins needle cs ≡ t → Absent needle cs → t ≡ false
absent_here needle cs true e none = let s = begins_split needle cs e in absurd (none [] s.0 s.1)
absent_here needle cs false e none = refl

pub none_first : (needle cs : List ℕ) (k : ℕ) → Absent needle cs → first_from needle cs k ≡ None
none_first needle [] k none = refl
none_first needle (c ∷ cs) k none =
    ap (λ t. cond t (Some k) (first_from needle cs (suc k))) (absent_here needle (c ∷ cs) _ refl none) ∙ none_first needle cs (suc k) (absent_tail needle cs c none)

pub none_last : (needle cs : List ℕ) (k : ℕ) → Absent needle cs → last_from needle cs k ≡ None
none_last needle [] k none = refl
none_last needle (c ∷ cs) k none =
    ap (λ r. later r (cond (begins needle (c ∷ cs)) (Some k) None)) (none_last needle cs (suc k) (absent_tail needle cs c none))
    ∙ ap (λ t. cond t (Some k) None) (absent_here needle (c ∷ cs) _ refl none)

-- no shorter front does
abbrev pub NoShorter : List ℕ → List ℕ → ℕ → Type 0
NoShorter needle cs n = (front rest : List ℕ) → cs ≡ front ++ (needle ++ rest) → length front < n → ⊥

abbrev pub NoLonger : List ℕ → List ℕ → ℕ → Type 0
NoLonger needle cs n = (front rest : List ℕ) → cs ≡ front ++ (needle ++ rest) → n < length front → ⊥

before_here : (needle cs : List ℕ) (n : ℕ) (t : Bool) → begins needle cs ≡ t → 0 < n → NoShorter needle cs n → t ≡ false
before_here needle cs n true e more none = let s = begins_split needle cs e in absurd (none [] s.0 s.1 more)
before_here needle cs n false e more none = refl

pub some_first : (d : ℕ) (needle front rest : List ℕ) (k : ℕ) → NoShorter (d ∷ needle) (front ++ ((d ∷ needle) ++ rest)) (length front) → first_from (d ∷ needle) (front ++ ((d ∷ needle) ++ rest)) k ≡ Some (k + length front)
some_first d needle [] rest k none =
    ap (λ t. cond t (Some k) (first_from (d ∷ needle) (needle ++ rest) (suc k))) (begins_append (d ∷ needle) rest) ∙ ap Some (sym (add-zero k))
some_first d needle (a ∷ front) rest k none =
    let here : 0 < length (a ∷ front) = omega arith in
    let more = some_first d needle front rest (suc k) (λ f r e l. none (a ∷ f) r (ap (λ x. a ∷ x) e) (omega (arith, l))) in
    let sum : suc k + length front ≡ k + length (a ∷ front) = omega arith in
    ap (λ t. cond t (Some k) (first_from (d ∷ needle) (front ++ ((d ∷ needle) ++ rest)) (suc k))) (before_here (d ∷ needle) _ _ _ refl here none) ∙ more ∙ ap Some sum

pub some_last : (d : ℕ) (needle front rest : List ℕ) (k : ℕ) → NoLonger (d ∷ needle) (front ++ ((d ∷ needle) ++ rest)) (length front) → last_from (d ∷ needle) (front ++ ((d ∷ needle) ++ rest)) k ≡ Some (k + length front)
some_last d needle [] rest k none =
    let gone : Absent (d ∷ needle) (needle ++ rest) = λ f r e. none (d ∷ f) r (ap (λ x. d ∷ x) e) (omega arith) in
    ap (λ r. later r (cond (begins (d ∷ needle) ((d ∷ needle) ++ rest)) (Some k) None)) (none_last (d ∷ needle) (needle ++ rest) (suc k) gone)
    ∙ ap (λ t. cond t (Some k) None) (begins_append (d ∷ needle) rest) ∙ ap Some (sym (add-zero k))
some_last d needle (a ∷ front) rest k none =
    let more = some_last d needle front rest (suc k) (λ f r e l. none (a ∷ f) r (ap (λ x. a ∷ x) e) (omega (arith, l))) in
    let sum : suc k + length front ≡ k + length (a ∷ front) = omega arith in
    ap (λ r. later r (cond (begins (d ∷ needle) (a ∷ (front ++ ((d ∷ needle) ++ rest)))) (Some k) None)) (more ∙ ap Some sum)

-- two fronts of the same list, the one shorter
pub longer_front : (front other rest behind : List ℕ) → front ++ rest ≡ other ++ behind → length front < length other → (more : List ℕ) × (other ≡ front ++ more) × (0 < length more)
longer_front [] other rest behind e l = (other, refl, l)
longer_front (a ∷ front) [] rest behind e l = absurd (omega (arith, l))
longer_front (a ∷ front) (b ∷ other) rest behind e l =
    let tails : front ++ rest ≡ other ++ behind = cc in
    let heads : a ≡ b = cc in
    let more = longer_front front other rest behind tails (omega (arith, l)) in
    (more.0, ap (λ x. b ∷ x) more.1 ∙ ap (λ x. x ∷ (front ++ more.0)) (sym heads), more.2)
