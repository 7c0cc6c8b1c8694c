use Rattle.std.proofs.Common.{◌≡◌, ℕ, List, ◌∷◌, false, length}
use Rattle.std.specs.Str.{chars, IsUtf8}
use Rattle.tcl_characters.specs.Mapping.{fitting}
use Rattle.tcl_characters.proofs.mapping.begins_some_key.Given as goal

abbrev pub invariant-keys : goal.invariant-keys
invariant-keys l = (rest : List ℕ) → IsUtf8 (l.byte ∷ rest) → fitting false l.mapping (chars (l.byte ∷ rest)) ≡ fitting false l.left (chars (l.byte ∷ rest))

abbrev pub decreases-keys : goal.decreases-keys
decreases-keys l = length l.left
