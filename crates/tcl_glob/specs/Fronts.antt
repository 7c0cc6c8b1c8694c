-- What the parts of the matching tell of patterns and texts.
use Rattle.std.specs.Prelude.{ℕ, ◌≡◌, ◌<◌, ◌≤◌, ◌==◌, Bool, true, false, if◌then◌else◌, List, []}
use Rattle.std.specs.Prelude.{◌∷◌, length}
use Rattle.tcl_glob.specs.declared.Item.{Item}
use Rattle.tcl_glob.specs.declared.Item.TheVariants.{Run, AnyOne, OneOf, Plain}
use Rattle.tcl_glob.specs.declared.Front.{Front}
use Rattle.tcl_glob.specs.declared.Front.TheVariants.{Whole, Differs, UpToRun}
use Rattle.tcl_glob.specs.Patterns.{PatternItem, run, any_one, one_of, plain, set_text, items}
use Rattle.tcl_glob.specs.Patterns.{matches_items, some_end, letters}

-- the item that was read
abbrev pub item_of : Bool → Item → PatternItem
item_of nocase Run = run
item_of nocase AnyOne = any_one
item_of nocase (OneOf body) = one_of (set_text (letters nocase body.now))
item_of nocase (Plain c) = plain c

-- what follows the first `]`
abbrev pub behind_set : List ℕ → List ℕ
behind_set [] = []
behind_set (c ∷ cs) = if c == 93 then cs else behind_set cs

-- the other end of what begins with a character of a set, and what follows in the set
abbrev pub range_end : ℕ → List ℕ → ℕ × List ℕ
range_end a [] = (a, [])
range_end a (b ∷ []) = (a, b ∷ [])
range_end a (b ∷ d ∷ set) = if b == 45 then (d, set) else (a, b ∷ d ∷ set)

-- whether the pattern matches the text, and whether it matches some end of it
abbrev pub whole : Bool → List ℕ → List ℕ → Bool
whole nocase pattern text = matches_items (items (letters nocase pattern)) (letters nocase text)

abbrev pub some : Bool → List ℕ → List ℕ → Bool
some nocase pattern text = some_end (matches_items (items (letters nocase pattern)))
    (letters nocase text)

-- What is told of a pattern at a text: it matches the whole of it, it doesn't, or its items up to a
-- run take the characters before a rest, and what follows the run is to match some end of the rest.
-- The run leaves nothing to be found in a later place: so the same holds of the pattern at some end
-- of the text.
abbrev pub IsFront : Bool → List ℕ → List ℕ → Front → Type 0
IsFront nocase pattern text Whole = whole nocase pattern text ≡ true
IsFront nocase pattern text Differs = whole nocase pattern text ≡ false
IsFront nocase pattern text (UpToRun after rest) =
    (whole nocase pattern text ≡ some nocase after.now rest.now) ×
    (some nocase pattern text ≡ some nocase after.now rest.now) ×
    (length after.now < length pattern) × (length rest.now ≤ length text)
