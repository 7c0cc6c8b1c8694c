-- Items, and the ends of texts that they match.
use Rattle.std.proofs.Common.{◌≡◌, ℕ, Bool, true, false, cond, List, [], ◌∷◌, refl, sym, ◌∙◌, ap, ◌⊎◌, inl, inr, length, map, ◌<◌, arith}
use lib.Utf8.{encodes}
use Rattle.std.proofs.lemmas.Bool.Decides.{nat_tests}
use Rattle.std.specs.Str.{chars, IsUtf8}
use Rattle.std.specs.Char.{to_ascii_lowercase}
use Rattle.std.proofs.lemmas.Str.{encodes-chars}
use Rattle.std.proofs.lemmas.Bool.{or_right}
use Rattle.std.specs.Prelude.{◌==◌, ◌&&◌, ◌||◌}
use Rattle.tcl_glob.specs.Patterns.{PatternItem, run, any_one, one_of, plain, takes, some_end, matches_items, items, letters}
use Rattle.tcl_glob.specs.Fronts.{whole, some, item_of}
use Rattle.tcl_glob.specs.declared.Item.{Item}
use Rattle.tcl_glob.specs.declared.Item.TheVariants.{Run, AnyOne, OneOf, Plain}
use Rattle.tcl_glob.proofs.Letters.{no_letter}

-- ---- tests

pub or_left : (a b : Bool) → a ≡ true → (a || b) ≡ true
or_left true b h = refl
or_left false b h = absurd (cc)

pub or_cases : (a b : Bool) → (a || b) ≡ true → (a ≡ true) ⊎ (b ≡ true)
or_cases true b h = inl refl
or_cases false b h = inr h

pub same_by : (a b : Bool) → (a ≡ true → b ≡ true) → (b ≡ true → a ≡ true) → a ≡ b
same_by true true f g = refl
same_by true false f g = sym (f refl)
same_by false true f g = g refl
same_by false false f g = refl

-- ---- ends

pub some_from_whole : (test : List ℕ → Bool) (text : List ℕ) → test text ≡ true → some_end test text ≡ true
some_from_whole test [] h = h
some_from_whole test (c ∷ cs) h = or_left _ _ h

either_end : (a b d : Bool) → ((a || b) || d) ≡ true → (d ≡ true → b ≡ true) → (a || b) ≡ true
either_end true b d h f = refl
either_end false true d h f = refl
either_end false false d h f = f h

pub some_of_some : (test : List ℕ → Bool) (text : List ℕ) → some_end (some_end test) text ≡ true → some_end test text ≡ true
some_of_some test [] h = h
some_of_some test (c ∷ cs) h = either_end (test (c ∷ cs)) (some_end test cs) _ h (some_of_some test cs)

-- ---- items

abbrev pub is_run : PatternItem → Bool
is_run run = true
is_run any_one = false
is_run (one_of set) = false
is_run (plain c) = false

pub takes_one : (i : PatternItem) (is : List PatternItem) (c : ℕ) (cs : List ℕ) → is_run i ≡ false → takes i c ≡ true → matches_items (i ∷ is) (c ∷ cs) ≡ matches_items is cs
takes_one run is c cs r h = absurd (cc)
takes_one any_one is c cs r h = refl
takes_one (one_of set) is c cs r h = ap (λ b. b && matches_items is cs) h
takes_one (plain d) is c cs r h = ap (λ b. b && matches_items is cs) h

pub takes_none : (i : PatternItem) (is : List PatternItem) (c : ℕ) (cs : List ℕ) → is_run i ≡ false → takes i c ≡ false → matches_items (i ∷ is) (c ∷ cs) ≡ false
takes_none run is c cs r h = absurd (cc)
takes_none any_one is c cs r h = absurd (cc)
takes_none (one_of set) is c cs r h = ap (λ b. b && matches_items is cs) h
takes_none (plain d) is c cs r h = ap (λ b. b && matches_items is cs) h

pub takes_nothing : (i : PatternItem) (is : List PatternItem) → is_run i ≡ false → matches_items (i ∷ is) [] ≡ false
takes_nothing run is r = absurd (cc)
takes_nothing any_one is r = refl
takes_nothing (one_of set) is r = refl
takes_nothing (plain d) is r = refl

and_second : (a b : Bool) → (a && b) ≡ true → b ≡ true
and_second true b h = h
and_second false b h = absurd (cc)

behind_first : (i : PatternItem) (is : List PatternItem) (c : ℕ) (cs : List ℕ) → is_run i ≡ false → matches_items (i ∷ is) (c ∷ cs) ≡ true → matches_items is cs ≡ true
behind_first run is c cs r h = absurd (cc)
behind_first any_one is c cs r h = h
behind_first (one_of set) is c cs r h = and_second _ _ h
behind_first (plain d) is c cs r h = and_second _ _ h

either_later : (a b d : Bool) → (a || b) ≡ true → (a ≡ true → d ≡ true) → (b ≡ true → d ≡ true) → d ≡ true
either_later true b d h f g = f refl
either_later false b d h f g = g h

no_end : (a : Bool) → a ≡ false → a ≡ true → (b : Bool) → b ≡ true
no_end true e h b = absurd (cc)
no_end false e h b = absurd (cc)

-- what matches some end of a text leaves some end of the rest behind the first character of the text
pub later : (i : PatternItem) (is : List PatternItem) (c : ℕ) (cs : List ℕ) → is_run i ≡ false → some_end (matches_items (i ∷ is)) (c ∷ cs) ≡ true → some_end (matches_items is) cs ≡ true
later i is c [] r h = either_later _ _ _ h (behind_first i is c [] r) (λ e. no_end _ (takes_nothing i is r) e _)
later i is c (d ∷ cs) r h =
    either_later _ _ _ h (λ e. some_from_whole (matches_items is) (d ∷ cs) (behind_first i is c (d ∷ cs) r e)) (λ e. or_right _ _ (later i is d cs r e))

-- ---- patterns at texts

pub not_run : (nocase : Bool) (item : Item) → (item ≡ Run → ⊥) → is_run (item_of nocase item) ≡ false
not_run nocase Run h = absurd (h refl)
not_run nocase AnyOne h = refl
not_run nocase (OneOf body) h = refl
not_run nocase (Plain c) h = refl

-- at the end of the pattern
pub empty : (n : ℕ) → (n == 0) ≡ true → n ≡ 0
empty n h = grind (arith, nat_tests)

pub filled : (n : ℕ) → (n == 0) ≡ false → 0 < n
filled n h = grind (arith, nat_tests)

pub ends_whole : (nocase : Bool) (pattern text left rest : List ℕ) → whole nocase pattern text ≡ whole nocase left rest → items (letters nocase left) ≡ [] → length rest ≡ 0 → whole nocase pattern text ≡ true
ends_whole nocase pattern text left rest same e h =
    same ∙ ap (λ is. matches_items is (letters nocase rest)) e ∙ ap (matches_items []) (no_letter nocase rest h)

ends_before : (nocase : Bool) (cs text : List ℕ) → encodes cs ≡ text → 0 < length text → matches_items [] (cond nocase (map to_ascii_lowercase cs) cs) ≡ false
ends_before nocase [] text e h = absurd (omega (arith, ap length e))
ends_before true (c ∷ cs) text e h = refl
ends_before false (c ∷ cs) text e h = refl

pub ends_part : (nocase : Bool) (pattern text left rest : List ℕ) → whole nocase pattern text ≡ whole nocase left rest → items (letters nocase left) ≡ [] → IsUtf8 rest → 0 < length rest → whole nocase pattern text ≡ false
ends_part nocase pattern text left rest same e u h =
    same ∙ ap (λ is. matches_items is (letters nocase rest)) e ∙ ends_before nocase (chars rest) rest (encodes-chars rest u) h

module _ (nocase : Bool) (pattern text left rest : List ℕ) (same_whole : whole nocase pattern text ≡ whole nocase left rest) (keeps_some : some nocase pattern text ≡ true → some nocase left rest ≡ true) where
  -- at a run
  pub run_whole : (after : List ℕ) → items (letters nocase left) ≡ run ∷ items (letters nocase after) → whole nocase pattern text ≡ some nocase after rest
  run_whole after e = same_whole ∙ ap (λ is. matches_items is (letters nocase rest)) e

  pub run_some : (after : List ℕ) → items (letters nocase left) ≡ run ∷ items (letters nocase after) → some nocase pattern text ≡ some nocase after rest
  run_some after e = same_by _ _
      (λ h. some_of_some (matches_items (items (letters nocase after))) (letters nocase rest) (sym (ap (λ is. some_end (matches_items is) (letters nocase rest)) e) ∙ keeps_some h))
      (λ h. some_from_whole (matches_items (items (letters nocase pattern))) (letters nocase text) (run_whole after e ∙ h))

  -- at an item that takes a character
  pub one_whole : (after behind : List ℕ) (i : PatternItem) (c : ℕ) → items (letters nocase left) ≡ i ∷ items (letters nocase after) → letters nocase rest ≡ c ∷ letters nocase behind → is_run i ≡ false → takes i c ≡ true → whole nocase pattern text ≡ whole nocase after behind
  one_whole after behind i c e f r t = same_whole ∙ ap (λ is. matches_items is (letters nocase rest)) e ∙ ap (matches_items (i ∷ items (letters nocase after))) f ∙ takes_one i (items (letters nocase after)) c (letters nocase behind) r t

  pub one_some : (after behind : List ℕ) (i : PatternItem) (c : ℕ) → items (letters nocase left) ≡ i ∷ items (letters nocase after) → letters nocase rest ≡ c ∷ letters nocase behind → is_run i ≡ false → some nocase pattern text ≡ true → some nocase after behind ≡ true
  one_some after behind i c e f r h =
      later i (items (letters nocase after)) c (letters nocase behind) r (sym (ap (λ is. some_end (matches_items is) (letters nocase rest)) e ∙ ap (some_end (matches_items (i ∷ items (letters nocase after)))) f) ∙ keeps_some h)
