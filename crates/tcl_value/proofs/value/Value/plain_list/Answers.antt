use Rattle.std.proofs.Common.{◌≡◌, [], ◌∷◌, ◌∙◌, ap, sym, subst, w64, FitsSigned}
use Rattle.std.specs.Fmt.{signed_decimal}
use Rattle.std.proofs.lemmas.Int.{to_z-of_z}
use Rattle.tcl_value.specs.Forms.{form_text, IsForm}
use Rattle.tcl_value.proofs.Plain.{ArePlain-number, write-number}
use Rattle.tcl_value.proofs.value.Value.plain_list.Goals as goal

pub returns-in_ok-of_number-in-Number-clause-text :
    goal.returns-in_ok-of_number-in-Number-clause-text
returns-in_ok-of_number-in-Number-clause-text c =
    let n = c.in-Number.n in
    let list = c.in_ok-of_number-in-Number.field-0 in
    let fits : FitsSigned w64 n = subst IsForm c.in-Number.is c.self.invariant in
    let alone : list ≡ signed_decimal n ∷ [] = c.in_ok-of_number-in-Number.ensures ∙ ap (λ z. signed_decimal z ∷ []) (to_z-of_z w64 n fits) in
    sym c.self.view_is ∙ ap form_text c.in-Number.is ∙ write-number n list fits alone

pub returns-in_ok-of_number-in-Number-clause-plain :
    goal.returns-in_ok-of_number-in-Number-clause-plain
returns-in_ok-of_number-in-Number-clause-plain c =
    let n = c.in-Number.n in
    let list = c.in_ok-of_number-in-Number.field-0 in
    let fits : FitsSigned w64 n = subst IsForm c.in-Number.is c.self.invariant in
    ArePlain-number n list fits (c.in_ok-of_number-in-Number.ensures ∙ ap (λ z. signed_decimal z ∷ []) (to_z-of_z w64 n fits))
