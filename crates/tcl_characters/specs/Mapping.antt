-- Texts in which others are put in the place of keys.
use Rattle.std.specs.Prelude.{ℕ, zero, suc, ◌-◌, Bool, false, if◌then◌else◌, List, [], ◌∷◌, ◌++◌}
use Rattle.std.specs.Prelude.{length, map, Some, None}
use Rattle.std.specs.declared.option.Option.{Option}
use Rattle.std.specs.Char.{encode_utf8, to_ascii_lowercase}
use Rattle.std.specs.Str.{chars}
use Rattle.tcl_glob.specs.Patterns.{letters}
use Rattle.tcl_characters.specs.Places.{begins}

-- characters as they are compared
abbrev pub folded : Bool → List ℕ → List ℕ
folded nocase cs = if nocase then map to_ascii_lowercase cs else cs

-- a key fits where the characters begin with it; an empty key fits nowhere
abbrev pub fits : List ℕ → List ℕ → Bool
fits [] cs = false
fits (k ∷ ks) cs = begins (k ∷ ks) cs

-- how many characters of the first key that fits, and what stands for it: of keys and what stands
-- for each in turn
abbrev pub fitting : Bool → List (List ℕ) → List ℕ → Option (ℕ × List ℕ)
fitting nocase [] cs = None
fitting nocase (key ∷ []) cs = None
fitting nocase (key ∷ new ∷ mapping) cs = if fits (letters nocase key) (folded nocase cs)
    then Some (length (chars key), new) else fitting nocase mapping cs

-- what is put for a character, and what follows when it and those of its key are passed
abbrev pub put : Option (ℕ × List ℕ) → ℕ → (ℕ → List ℕ) → List ℕ
put None c go = encode_utf8 c ++ go 0
put (Some p) c go = p.1 ++ go (p.0 - 1)

-- The text of the characters behind the first `skip` of these: at each place the first key of the
-- mapping that fits gives way to what stands for it, and reading goes on behind the key; a
-- character at which none fits stays.
abbrev pub mapped : Bool → List (List ℕ) → List ℕ → ℕ → List ℕ
mapped nocase mapping [] skip = []
mapped nocase mapping (c ∷ cs) (suc skip) = mapped nocase mapping cs skip
mapped nocase mapping (c ∷ cs) zero = put (fitting nocase mapping (c ∷ cs)) c
    (mapped nocase mapping cs)
