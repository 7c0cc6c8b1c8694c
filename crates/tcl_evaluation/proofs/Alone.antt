-- Lists of one word.
use Rattle.std.proofs.Common.{◌≡◌, List, [], ◌∷◌, length, get_or, refl, arith}
use Rattle.tcl_core.specs.Paths.{Text}

pub only_item : (xs : List Text) → length xs ≡ 1 → xs ≡ get_or xs 0 [] ∷ []
only_item [] h = absurd (omega (arith, h))
only_item (x ∷ []) h = refl
only_item (x ∷ y ∷ ys) h = absurd (omega (arith, h))
