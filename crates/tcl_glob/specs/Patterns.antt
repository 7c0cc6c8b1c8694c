-- Patterns, over the characters of texts.
use Rattle.std.specs.Prelude.{ℕ, ◌==◌, ◌&&◌, ◌||◌, nat_le, Bool, true, false, if◌then◌else◌, List}
use Rattle.std.specs.Prelude.{[], ◌∷◌, map}
use Rattle.std.specs.Char.{to_ascii_lowercase}
use Rattle.std.specs.Str.{chars}

-- ---- the items of a pattern

-- An item is a run of any characters, any one character, one character of a set (its text up to the
-- `]`), or a character that stands for itself.
pub data PatternItem : Type 0 where
  run : PatternItem
  any_one : PatternItem
  one_of : List ℕ → PatternItem
  plain : ℕ → PatternItem

-- the text of a set: what precedes the first `]`, or all
abbrev pub set_text : List ℕ → List ℕ
set_text [] = []
set_text (c ∷ cs) = if c == 93 then [] else c ∷ set_text cs

-- where reading stands: outside a set, behind a backslash, or in a set
pub data Position : Type 0 where
  outside : Position
  escaped : Position
  inside : Position

-- A character outside a set: `*`, `?`, a backslash, `[`, or one that is plain. What follows is read
-- at a place.
abbrev pub first_item : ℕ → List ℕ → (Position → List PatternItem) → List PatternItem
first_item c cs rest =
    if c == 42 then run ∷ rest outside
    else if c == 63 then any_one ∷ rest outside
    else if c == 92 then rest escaped
    else if c == 91 then one_of (set_text cs) ∷ rest inside
    else plain c ∷ rest outside

-- The items of a pattern. A backslash makes the next character plain, and is itself where it is the
-- last; a set ends with the first `]`.
abbrev pub items_at : List ℕ → Position → List PatternItem
items_at [] outside = []
items_at [] escaped = plain 92 ∷ []
items_at [] inside = []
items_at (c ∷ cs) outside = first_item c cs (items_at cs)
items_at (c ∷ cs) escaped = plain c ∷ items_at cs outside
items_at (c ∷ cs) inside = if c == 93 then items_at cs outside else items_at cs inside

abbrev pub items : List ℕ → List PatternItem
items pattern = items_at pattern outside

-- ---- sets

-- c is one of the characters from a to b, or from b to a
abbrev pub is_between : ℕ → ℕ → ℕ → Bool
is_between a b c = (nat_le a c && nat_le c b) || (nat_le b c && nat_le c a)

-- A set is read from the left: `a-b` is a range, and any other character stands for itself.
abbrev pub contains : List ℕ → ℕ → Bool
contains [] c = false
contains (a ∷ []) c = a == c
contains (a ∷ b ∷ []) c = a == c || b == c
contains (a ∷ b ∷ d ∷ set) c = if b == 45 then is_between a d c || contains set c else a == c ||
    contains (b ∷ d ∷ set) c

-- ---- what a pattern matches

-- a character that an item takes which is no run
abbrev pub takes : PatternItem → ℕ → Bool
takes run c = false
takes any_one c = true
takes (one_of set) c = contains set c
takes (plain d) c = d == c

-- some end of the text passes the test
abbrev pub some_end : (List ℕ → Bool) → List ℕ → Bool
some_end test [] = test []
some_end test (c ∷ cs) = test (c ∷ cs) || some_end test cs

-- By cases on the first item: a run takes some front of the text, and any other item one character.
abbrev pub matches_items : List PatternItem → List ℕ → Bool
matches_items [] [] = true
matches_items [] (c ∷ cs) = false
matches_items (run ∷ is) text = some_end (matches_items is) text
matches_items (any_one ∷ is) [] = false
matches_items (any_one ∷ is) (c ∷ cs) = matches_items is cs
matches_items (one_of set ∷ is) [] = false
matches_items (one_of set ∷ is) (c ∷ cs) = contains set c && matches_items is cs
matches_items (plain d ∷ is) [] = false
matches_items (plain d ∷ is) (c ∷ cs) = d == c && matches_items is cs

-- the characters of a text, their ASCII letters in lower case if case doesn't count
abbrev pub letters : Bool → List ℕ → List ℕ
letters nocase text = if nocase then map to_ascii_lowercase (chars text) else chars text

-- whether a pattern matches a whole text
abbrev pub is_match : Bool → List ℕ → List ℕ → Bool
is_match nocase pattern text = matches_items (items (letters nocase pattern)) (letters nocase text)
