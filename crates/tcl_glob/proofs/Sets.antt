-- Sets, and the items of patterns.
use Rattle.std.proofs.Common.{◌≡◌, ℕ, Bool, true, false, cond, List, [], ◌∷◌, refl, sym, ◌∙◌, ap, arith}
use Rattle.std.specs.Prelude.{◌==◌, ◌≢◌, ◌||◌}
use Rattle.std.proofs.lemmas.Bool.Decides.{nat_tests, Decides-eqb}
use Rattle.std.proofs.lemmas.Bool.{ne_eqb}
use Rattle.tcl_glob.specs.Patterns.{set_text, contains, is_between, run, any_one, one_of, plain, items, items_at, outside, escaped, inside}
use Rattle.tcl_glob.specs.Fronts.{behind_set, range_end}

equal : (a b : ℕ) → a ≡ b → (a == b) ≡ true
equal a b h = (Decides-eqb a b).1 h

-- ---- ranges

self : (a c : ℕ) → is_between a a c ≡ (a == c)
self a c = grind (arith, nat_tests)

or_none : (a : Bool) → a ≡ (a || false)
or_none true = refl
or_none false = refl

abbrev in_range : ℕ → ℕ × List ℕ → ℕ → Bool
in_range a p c = is_between a p.0 c || contains p.1 c

pub contains_range : (a : ℕ) (set : List ℕ) (c : ℕ) → contains (a ∷ set) c ≡ (is_between a (range_end a set).0 c || contains (range_end a set).1 c)
contains_range a [] c = or_none (a == c) ∙ ap (λ t. t || false) (sym (self a c))
contains_range a (b ∷ []) c = ap (λ t. t || b == c) (sym (self a c))
contains_range a (b ∷ d ∷ set) c = choice (b == 45)
  where
    choice : (t : Bool) → cond t (is_between a d c || contains set c) (a == c || contains (b ∷ d ∷ set) c) ≡ in_range a (cond t (d, set) (a, b ∷ d ∷ set)) c
    choice true = refl
    choice false = ap (λ t. t || contains (b ∷ d ∷ set) c) (sym (self a c))

no_minus : (a b : ℕ) (set : List ℕ) → (b == 45) ≡ false → range_end a (b ∷ set) ≡ (a, b ∷ set)
no_minus a b [] h = refl
no_minus a b (d ∷ set) h = ap (λ t. cond t (d, set) (a, b ∷ d ∷ set)) h

pub no_range : (a b : ℕ) (cs : List ℕ) → b ≢ 45 → range_end a (set_text (b ∷ cs)) ≡ (a, set_text (b ∷ cs))
no_range a b cs h = choice (b == 93)
  where
    choice : (t : Bool) → range_end a (cond t [] (b ∷ set_text cs)) ≡ (a, cond t [] (b ∷ set_text cs))
    choice true = refl
    choice false = no_minus a b (set_text cs) (ne_eqb b 45 h)

pub last_minus : (a : ℕ) → range_end a (set_text (45 ∷ [])) ≡ (a, set_text (45 ∷ []))
last_minus a = refl

pub closed_minus : (a d : ℕ) (cs : List ℕ) → d ≡ 93 → range_end a (set_text (45 ∷ d ∷ cs)) ≡ (a, set_text (45 ∷ d ∷ cs))
closed_minus a d cs h = choice (d == 93) (equal d 93 h)
  where
    choice : (t : Bool) → t ≡ true → range_end a (45 ∷ cond t [] (d ∷ set_text cs)) ≡ (a, 45 ∷ cond t [] (d ∷ set_text cs))
    choice true e = refl
    choice false e = absurd (cc)

pub one_range : (a d : ℕ) (cs : List ℕ) → d ≢ 93 → range_end a (set_text (45 ∷ d ∷ cs)) ≡ (d, set_text cs)
one_range a d cs h = choice (d == 93) (ne_eqb d 93 h)
  where
    choice : (t : Bool) → t ≡ false → range_end a (45 ∷ cond t [] (d ∷ set_text cs)) ≡ (d, set_text cs)
    choice true e = absurd (cc)
    choice false e = refl

-- ---- what follows a set

pub inside_is : (cs : List ℕ) → items_at cs inside ≡ items (behind_set cs)
inside_is [] = refl
inside_is (c ∷ cs) = choice (c == 93) (inside_is cs)
  where
    choice : (t : Bool) → items_at cs inside ≡ items (behind_set cs) → cond t (items_at cs outside) (items_at cs inside) ≡ items (cond t cs (behind_set cs))
    choice true e = refl
    choice false e = e

-- ---- the first item of a pattern that begins with a character

at_true : {A : Type 0} (t : Bool) (x y : A) → t ≡ true → cond t x y ≡ x
at_true true x y e = refl
at_true false x y e = absurd (cc)

at_false : {A : Type 0} (t : Bool) (x y : A) → t ≡ false → cond t x y ≡ y
at_false true x y e = absurd (cc)
at_false false x y e = refl

pub star_first : (cs : List ℕ) (c : ℕ) → c ≡ 42 → items (c ∷ cs) ≡ run ∷ items cs
star_first cs c e = ap (λ d. items (d ∷ cs)) e

pub question_first : (cs : List ℕ) (c : ℕ) → c ≡ 63 → items (c ∷ cs) ≡ any_one ∷ items cs
question_first cs c e = ap (λ d. items (d ∷ cs)) e

pub backslash_first : (cs : List ℕ) (c : ℕ) → c ≡ 92 → items (c ∷ cs) ≡ items_at cs escaped
backslash_first cs c e = ap (λ d. items (d ∷ cs)) e

pub bracket_first : (cs : List ℕ) (c : ℕ) → c ≡ 91 → items (c ∷ cs) ≡ one_of (set_text cs) ∷ items (behind_set cs)
bracket_first cs c e = ap (λ d. items (d ∷ cs)) e ∙ ap (λ is. one_of (set_text cs) ∷ is) (inside_is cs)

pub plain_first : (cs : List ℕ) (c : ℕ) → c ≢ 42 → c ≢ 63 → c ≢ 92 → c ≢ 91 → items (c ∷ cs) ≡ plain c ∷ items cs
plain_first cs c no_star no_question no_backslash no_bracket =
    at_false (c == 42) _ _ (ne_eqb c 42 no_star) ∙ at_false (c == 63) _ _ (ne_eqb c 63 no_question) ∙ at_false (c == 92) _ _ (ne_eqb c 92 no_backslash) ∙ at_false (c == 91) _ _ (ne_eqb c 91 no_bracket)

-- ---- the ranges of a set

pub range_more : (cs after : List ℕ) (from letter to : ℕ) (among : Bool) → from ≢ 93 → to ≡ (range_end from (set_text cs)).0 → set_text after ≡ (range_end from (set_text cs)).1 → among ≡ is_between from to letter → among ≡ false → contains (set_text after) letter ≡ contains (set_text (from ∷ cs)) letter
range_more cs after from letter to among no_close is_to is_rest is_among apart =
    sym (ap (λ set. contains set letter) (at_false (from == 93) [] (from ∷ set_text cs) (ne_eqb from 93 no_close))
    ∙ contains_range from (set_text cs) letter
    ∙ ap (λ d. is_between from d letter || contains (range_end from (set_text cs)).1 letter) (sym is_to)
    ∙ ap (λ t. t || contains (range_end from (set_text cs)).1 letter) (sym is_among ∙ apart)
    ∙ ap (λ set. contains set letter) (sym is_rest))
