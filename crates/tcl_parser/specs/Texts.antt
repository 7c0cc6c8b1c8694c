-- Texts and what they end in.
use Rattle.std.specs.Prelude.{◌≡◌, ℕ, ◌==◌, ◌≤◌, nat_lt, cond, Bool, false, List, [], ◌∷◌, ◌++◌}

-- a text ends with another
pub record EndsWith (s rest : List ℕ) : Type 0 where
  pub front : List ℕ
  pub whole : s ≡ front ++ rest

-- whether a text begins with a byte
abbrev pub begins_with : ℕ → List ℕ → Bool
begins_with b [] = false
begins_with b (c ∷ s) = c == b

-- a text that begins with no ASCII character: it is empty, or another character comes
abbrev pub IsNotAscii : List ℕ → Type 0
IsNotAscii [] = Unit {0}
IsNotAscii (b ∷ s) = 128 ≤ b

-- what follows an ASCII character, or the text where none comes
abbrev pub after_ascii : List ℕ → List ℕ
after_ascii [] = []
after_ascii (b ∷ s) = cond (nat_lt b 128) s (b ∷ s)
