-- What a text is in which others stand in the place of keys.
use Rattle.std.specs.Prelude.{ℕ, ◌≡◌, ◌⊎◌, Bool, List, [], ◌∷◌, ◌++◌, length}
use Rattle.std.specs.Char.{encode_utf8}
use Rattle.std.specs.Str.{chars}
use Rattle.tcl_characters.specs.Mapping.{folded, mapped}
use Rattle.tcl_glob.specs.Patterns.{letters}

-- a key that isn't empty, with which these characters begin
pub record Fits (nocase : Bool) (key cs : List ℕ) : Type 0 where
  pub some : chars key ≡ [] → Prim.⊥
  pub rest : List ℕ
  pub whole : folded nocase cs ≡ letters nocase key ++ rest

-- the first key of a mapping that fits takes n characters, and `new` stands for it
abbrev pub IsFirstFit : Bool → List (List ℕ) → List ℕ → ℕ → List ℕ → Type 0
IsFirstFit nocase [] cs n new = Prim.⊥
IsFirstFit nocase (key ∷ []) cs n new = Prim.⊥
IsFirstFit nocase (key ∷ stands ∷ mapping) cs n new =
    (Fits nocase key cs × (n ≡ length (chars key)) × (new ≡ stands)) ⊎
    ((Fits nocase key cs → Prim.⊥) × IsFirstFit nocase mapping cs n new)

-- From the left: where a key fits, what stands for the first that does is put for its characters,
-- and reading goes on behind them; where none fits a character stays. What was put is never read.
pub data Maps (nocase : Bool) (mapping : List (List ℕ)) : List ℕ → List ℕ → Type 0 where
  end : (cs text : List ℕ) → cs ≡ [] → text ≡ [] → Maps nocase mapping cs text
  put : (cs text front rest new more : List ℕ) → cs ≡ front ++ rest → text ≡ new ++ more →
      IsFirstFit nocase mapping cs (length front) new → Maps nocase mapping rest more →
      Maps nocase mapping cs text
  kept : (cs text : List ℕ) (c : ℕ) (rest more : List ℕ) → cs ≡ c ∷ rest →
      text ≡ encode_utf8 c ++ more →
      ((n : ℕ) (new : List ℕ) → IsFirstFit nocase mapping cs n new → Prim.⊥) →
      Maps nocase mapping rest more → Maps nocase mapping cs text

-- each text is mapped to one, which is that of the definition
abbrev pub MapsOneWay : Type 0
MapsOneWay = (nocase : Bool) (mapping : List (List ℕ)) (cs : List ℕ)
    → Maps nocase mapping cs (mapped nocase mapping cs 0) ×
    ((text : List ℕ) → Maps nocase mapping cs text → text ≡ mapped nocase mapping cs 0)
