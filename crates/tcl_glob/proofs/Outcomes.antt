-- What the matching of patterns comes to.
use Rattle.std.proofs.Common.{◌≡◌, ◌≢◌, ℕ, ◌≤◌, Bool, true, false, List, [], ◌∷◌, ◌++◌, map, refl, sym, ◌∙◌, ap, subst, arith, ◌⊎◌, inl, inr, append-nil}
use Rattle.std.specs.Prelude.{◌&&◌}
use Rattle.std.specs.Char.{to_ascii_lowercase}
use Rattle.std.specs.Str.{chars, IsUtf8}
use Rattle.std.proofs.lemmas.List.{map-append}
use Rattle.std.proofs.lemmas.Str.{chars-append, chars-nil}
use Rattle.std.proofs.lemmas.Bool.Decides.{nat_tests, Decides-eqb}
use Rattle.std.proofs.lemmas.Bool.{or_right}
use Rattle.tcl_glob.specs.Patterns.{PatternItem, run, plain, items, matches_items, some_end, letters}
use Rattle.tcl_glob.specs.Laws.{IsPlain, Occurs, RunTakesFront, PlainMatchesItself, StarMatchesAll, StarsFindPlain}
use Rattle.tcl_glob.proofs.Matching.{or_cases, some_from_whole}
use Rattle.tcl_glob.proofs.Sets.{plain_first}

-- ---- ends

some_split : (test : List ℕ → Bool) (text : List ℕ) → some_end test text ≡ true → (front rest : List ℕ) × (text ≡ front ++ rest) × (test rest ≡ true)
some_split test [] h = ([], [], refl, h)
some_split test (c ∷ cs) h = cases (test (c ∷ cs)) refl (or_cases _ _ h) (some_split test cs)
  where
    cases : (b : Bool) → b ≡ test (c ∷ cs) → (test (c ∷ cs) ≡ true) ⊎ (some_end test cs ≡ true) → (some_end test cs ≡ true → (front rest : List ℕ) × (cs ≡ front ++ rest) × (test rest ≡ true)) → (front rest : List ℕ) × (c ∷ cs ≡ front ++ rest) × (test rest ≡ true)
    cases b e (inl h) f = ([], c ∷ cs, refl, h)
    cases b e (inr h) f = let s = f h in (c ∷ s.0, s.1, ap (λ l. c ∷ l) s.2, s.3)

some_join : (test : List ℕ → Bool) (front rest : List ℕ) → test rest ≡ true → some_end test (front ++ rest) ≡ true
some_join test [] rest h = some_from_whole test rest h
some_join test (c ∷ front) rest h = or_right _ _ (some_join test front rest h)

pub run_front : RunTakesFront
run_front is text =
    (some_split (matches_items is) text, λ s. subst (λ t. some_end (matches_items is) t ≡ true) (sym s.2) (some_join (matches_items is) s.0 s.1 s.3))

-- ---- plain patterns

items_plain : (cs ds : List ℕ) → IsPlain cs → items (cs ++ ds) ≡ map plain cs ++ items ds
items_plain [] ds h = refl
items_plain (c ∷ cs) ds h = plain_first (cs ++ ds) c h.0 h.1 h.3 h.2 ∙ ap (λ is. plain c ∷ is) (items_plain cs ds h.4)

same_low : (c special : ℕ) → special ≤ 64 → c ≢ special → to_ascii_lowercase c ≢ special
same_low c special low apart e = grind (arith, nat_tests)

same_between : (c special : ℕ) → 91 ≤ special → special ≤ 92 → c ≢ special → to_ascii_lowercase c ≢ special
same_between c special low high apart e = grind (arith, nat_tests)

plain_low : (cs : List ℕ) → IsPlain cs → IsPlain (map to_ascii_lowercase cs)
plain_low [] h = tt
plain_low (c ∷ cs) h = (same_low c 42 (omega arith) h.0, same_low c 63 (omega arith) h.1, same_between c 91 (omega arith) (omega arith) h.2, same_between c 92 (omega arith) (omega arith) h.3, plain_low cs h.4)

plain_letters : (nocase : Bool) (text : List ℕ) → IsPlain (chars text) → IsPlain (letters nocase text)
plain_letters true text h = plain_low (chars text) h
plain_letters false text h = h

and_split : (a b : Bool) → (a && b) ≡ true → (a ≡ true) × (b ≡ true)
and_split true b h = (refl, h)
and_split false b h = absurd (cc)

and_join : (a b : Bool) → a ≡ true → b ≡ true → (a && b) ≡ true
and_join true b p q = q
and_join false b p q = p

-- plain items, and then others
plain_takes : (cs : List ℕ) (is : List PatternItem) (text : List ℕ) → matches_items (map plain cs ++ is) text ≡ true → (rest : List ℕ) × (text ≡ cs ++ rest) × (matches_items is rest ≡ true)
plain_takes [] is text h = (text, refl, h)
plain_takes (c ∷ cs) is [] h = absurd (cc)
plain_takes (c ∷ cs) is (d ∷ text) h =
    let both = and_split _ _ h in
    let s = plain_takes cs is text both.1 in
    (s.0, (λ i. (sym ((Decides-eqb c d).0 both.0)) i ∷ s.1 i), s.2)

plain_gives : (cs : List ℕ) (is : List PatternItem) (rest : List ℕ) → matches_items is rest ≡ true → matches_items (map plain cs ++ is) (cs ++ rest) ≡ true
plain_gives [] is rest h = h
plain_gives (c ∷ cs) is rest h = and_join _ _ ((Decides-eqb c c).1 refl) (plain_gives cs is rest h)

nothing_left : (rest : List ℕ) → matches_items [] rest ≡ true → rest ≡ []
nothing_left [] h = refl
nothing_left (c ∷ cs) h = absurd (cc)

alone : (cs : List ℕ) → IsPlain cs → items cs ≡ map plain cs ++ []
alone cs h = ap items (sym (append-nil cs)) ∙ items_plain cs [] h

plain_alone : (cs text : List ℕ) → IsPlain cs → matches_items (items cs) text ≡ true → cs ≡ text
plain_alone cs text h m =
    let s = plain_takes cs [] text (sym (ap (λ is. matches_items is text) (alone cs h)) ∙ m) in
    sym (s.1 ∙ ap (λ r. cs ++ r) (nothing_left s.0 s.2) ∙ append-nil cs)

plain_self : (cs text : List ℕ) → IsPlain cs → cs ≡ text → matches_items (items cs) text ≡ true
plain_self cs text h e =
    ap (λ is. matches_items is text) (alone cs h) ∙ ap (matches_items (map plain cs ++ [])) (sym e ∙ sym (append-nil cs)) ∙ plain_gives cs [] [] refl

pub plain_itself : PlainMatchesItself
plain_itself nocase pattern text h =
    let p = plain_letters nocase pattern h in
    (plain_alone (letters nocase pattern) (letters nocase text) p, plain_self (letters nocase pattern) (letters nocase text) p)

-- ---- stars

pub chars_star : (bs : List ℕ) → chars (42 ∷ bs) ≡ 42 ∷ chars bs
unfolding chars
chars_star [] = refl
chars_star (b ∷ bs) = refl

all_ends : (text : List ℕ) → some_end (matches_items []) text ≡ true
all_ends [] = refl
all_ends (c ∷ cs) = all_ends cs

star_letters : (nocase : Bool) (bs : List ℕ) → letters nocase (42 ∷ bs) ≡ 42 ∷ letters nocase bs
star_letters true bs = ap (map to_ascii_lowercase) (chars_star bs)
star_letters false bs = chars_star bs

no_letters : (nocase : Bool) → letters nocase [] ≡ []
no_letters true = ap (map to_ascii_lowercase) chars-nil
no_letters false = chars-nil

one_star : (nocase : Bool) → letters nocase (42 ∷ []) ≡ 42 ∷ []
one_star nocase = star_letters nocase [] ∙ ap (λ l. 42 ∷ l) (no_letters nocase)

pub star_all : StarMatchesAll
star_all nocase text = ap (λ l. matches_items (items l) (letters nocase text)) (one_star nocase) ∙ all_ends (letters nocase text)

letters-append : (nocase : Bool) (xs ys : List ℕ) → IsUtf8 xs → letters nocase (xs ++ ys) ≡ letters nocase xs ++ letters nocase ys
letters-append true xs ys u = ap (map to_ascii_lowercase) (chars-append xs ys u) ∙ map-append to_ascii_lowercase (chars xs) (chars ys)
letters-append false xs ys u = chars-append xs ys u

between_stars : (nocase : Bool) (pattern : List ℕ) → IsUtf8 pattern → IsPlain (chars pattern) → items (letters nocase ((42 ∷ pattern) ++ 42 ∷ [])) ≡ run ∷ (map plain (letters nocase pattern) ++ run ∷ [])
between_stars nocase pattern u h =
    ap items (star_letters nocase (pattern ++ 42 ∷ []) ∙ ap (λ l. 42 ∷ l) (letters-append nocase pattern (42 ∷ []) u ∙ ap (λ l. letters nocase pattern ++ l) (one_star nocase)))
    ∙ ap (λ is. run ∷ is) (items_plain (letters nocase pattern) (42 ∷ []) (plain_letters nocase pattern h))

found : (cs text : List ℕ) → some_end (matches_items (map plain cs ++ run ∷ [])) text ≡ true → Occurs cs text
found cs text h =
    let s = some_split (matches_items (map plain cs ++ run ∷ [])) text h in
    let t = plain_takes cs (run ∷ []) s.1 s.3 in
    (s.0, t.0, s.2 ∙ ap (λ r. s.0 ++ r) t.1)

finds : (cs text : List ℕ) → Occurs cs text → some_end (matches_items (map plain cs ++ run ∷ [])) text ≡ true
finds cs text o =
    subst (λ t. some_end (matches_items (map plain cs ++ run ∷ [])) t ≡ true) (sym o.2) (some_join (matches_items (map plain cs ++ run ∷ [])) o.0 (cs ++ o.1) (plain_gives cs (run ∷ []) o.1 (all_ends o.1)))

pub stars_find : StarsFindPlain
stars_find nocase pattern text u h =
    let e = ap (λ is. matches_items is (letters nocase text)) (between_stars nocase pattern u h) in
    (λ m. found (letters nocase pattern) (letters nocase text) (sym e ∙ m), λ o. e ∙ finds (letters nocase pattern) (letters nocase text) o)
