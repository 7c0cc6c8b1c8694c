-- The first eight bytes of a text, and the number that they make.
use Rattle.std.specs.Prelude.{◌≡◌, ◌<◌, ℕ, List, [], ◌∷◌, get_or}
use Rattle.std.specs.Int.{w64, from_le_bytes}

-- The first eight bytes, 0 for each that isn't there.
abbrev pub eight : List ℕ → List ℕ
eight text = get_or text 0 0 ∷ get_or text 1 0 ∷ get_or text 2 0 ∷ get_or text 3 0
    ∷ get_or text 4 0 ∷ get_or text 5 0 ∷ get_or text 6 0 ∷ get_or text 7 0 ∷ []

-- The number is that of the text's first eight bytes, the first of them its lowest.
pub record IsFront (text : List ℕ) (n : ℕ) : Type 0 where
  pub is : n ≡ from_le_bytes w64 (eight text)
  pub small : (i : ℕ) → get_or (eight text) i 0 < 256
