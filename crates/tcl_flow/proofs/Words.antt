-- The words of a return, by twos.
use Rattle.std.proofs.Common.{◌≡◌, suc, ◌-◌, ◌*◌, ◌/◌, ◌%◌, ◌≤◌, List, [], ◌∷◌, length, drop, get_or, refl, ◌∙◌, ap, arith, length-drop}
use Rattle.tcl_flow.specs.Returning.{Text}
use Rattle.tcl_flow.specs.OptionReading.{options_in, result_in}

pub no_result : (l : List Text) → length l % 2 ≡ 0 → result_in l ≡ []
no_result [] h = refl
no_result (x ∷ []) h = absurd (omega arith)
no_result (k ∷ v ∷ l) h = no_result l (omega arith)

pub result_last : (l : List Text) (d : Text) → length l % 2 ≡ 1 → get_or l (length l - 1) d ≡ result_in l
result_last [] d h = absurd (omega arith)
result_last (x ∷ []) d h = refl
result_last (k ∷ v ∷ []) d h = absurd (omega arith)
result_last (k ∷ v ∷ x ∷ l) d h =
    let one : suc (suc (suc (length l))) - 1 ≡ suc (suc (suc (length l) - 1)) = omega arith in
    ap (λ n. get_or (k ∷ v ∷ x ∷ l) n d) one ∙ result_last (x ∷ l) d (omega arith)

few_options : (l : List Text) → length l ≤ 1 → options_in l ≡ []
few_options [] h = refl
few_options (x ∷ []) h = refl
few_options (k ∷ v ∷ l) h = absurd (omega arith)

-- behind all twos no option is left
pub options_end : (l : List Text) → options_in (drop (2 * (length l / 2)) l) ≡ []
options_end l = few_options (drop (2 * (length l / 2)) l) (omega (arith, length-drop (2 * (length l / 2)) l))
