-- Parts of dicts, listed.
use Rattle.std.proofs.Common.{◌≡◌, ℕ, ◌≤◌, List, [], ◌∷◌, ◌++◌, length, Err, sym, subst, arith, append_assoc}
use Rattle.tcl_words.specs.Faults.{too_long}
use Rattle.tcl_value.specs.Limits.{IsPast}
use Rattle.tcl_value.specs.Writing.{write}
use Rattle.tcl_lists.proofs.NestedLengths.{element_longer}
use Rattle.tcl_lists.proofs.Placed.{placed_behind}
use Rattle.tcl_lists.specs.Lists.{Texts, list_value}
use Rattle.tcl_lists.proofs.Lengths.{past_at}

-- a list with an element that is too long is too long
pub element_past : (made rest : Texts) (x : List ℕ) → IsPast x → list_value (made ++ (x ∷ rest)) ≡ Err too_long
element_past made rest x h =
    let longer : length x ≤ length (write (made ++ x ∷ [])) = subst (λ (l : Texts). length x ≤ length (write l)) (placed_behind (length made) x made (omega arith)) (element_longer (length made) x made) in
    past_at (made ++ x ∷ []) rest (made ++ (x ∷ rest)) (sym (append_assoc made (x ∷ []) rest)) (omega arith)
