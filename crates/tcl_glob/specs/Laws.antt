-- What the matching of patterns comes to.
use Rattle.std.specs.Prelude.{ℕ, ◌≡◌, ◌≢◌, ◌↔◌, IsTrue, Bool, List, [], ◌∷◌, ◌++◌}
use Rattle.std.specs.Str.{chars, IsUtf8}
use Rattle.tcl_glob.specs.Patterns.{PatternItem, run, matches_items, letters, is_match}

-- none of `*`, `?`, `[` and the backslash
abbrev pub IsPlain : List ℕ → Type 0
IsPlain [] = Unit {0}
IsPlain (c ∷ cs) = (c ≢ 42) × (c ≢ 63) × (c ≢ 91) × (c ≢ 92) × IsPlain cs

-- one text has the other within
abbrev pub Occurs : List ℕ → List ℕ → Type 0
Occurs cs text = (front behind : List ℕ) × (text ≡ front ++ (cs ++ behind))

-- a run takes some front of a text, and what follows the run matches the rest
abbrev pub RunTakesFront : Type 0
RunTakesFront = (is : List PatternItem) (text : List ℕ) →
    IsTrue (matches_items (run ∷ is) text) ↔
    ((front rest : List ℕ) × (text ≡ front ++ rest) × IsTrue (matches_items is rest))

-- a plain pattern matches what has its letters, and nothing else
abbrev pub PlainMatchesItself : Type 0
PlainMatchesItself = (nocase : Bool) (pattern text : List ℕ) → IsPlain (chars pattern) →
    IsTrue (is_match nocase pattern text) ↔ (letters nocase pattern ≡ letters nocase text)

-- `*` matches each text
abbrev pub StarMatchesAll : Type 0
StarMatchesAll = (nocase : Bool) (text : List ℕ) → IsTrue (is_match nocase (42 ∷ []) text)

-- a plain pattern between two stars matches the texts that have it within
abbrev pub StarsFindPlain : Type 0
StarsFindPlain = (nocase : Bool) (pattern text : List ℕ) → IsUtf8 pattern → IsPlain
    (chars pattern) → IsTrue (is_match nocase ((42 ∷ pattern) ++ 42 ∷ []) text) ↔ Occurs
    (letters nocase pattern) (letters nocase text)
