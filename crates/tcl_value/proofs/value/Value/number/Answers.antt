use Rattle.std.proofs.Common.{◌≡◌, ◌∙◌, ap, sym, Ok, [], ◌∷◌, w64, FitsSigned, subst}
use Rattle.std.specs.Fmt.{signed_decimal}
use Rattle.std.proofs.lemmas.Int.{to_z-of_z}
use Rattle.tcl_value.specs.Reading.{int_of, list_of}
use Rattle.tcl_value.specs.Forms.{form_text, IsForm}
use Rattle.tcl_value.proofs.Laws.{int_of-number, list_of-number}
use Rattle.tcl_value.proofs.value.Value.number.Goals as goal

pub returns-in-Number-clause-integer : goal.returns-in-Number-clause-integer
returns-in-Number-clause-integer c style =
    let fits : FitsSigned w64 c.in-Number.n = subst IsForm c.in-Number.is c.self.invariant in
    ap (int_of style) (sym c.self.view_is ∙ ap form_text c.in-Number.is)
    ∙ int_of-number style c.in-Number.n fits
    ∙ ap (λ z. Ok z) (sym (to_z-of_z w64 c.in-Number.n fits))

pub returns-in-Number-clause-list : goal.returns-in-Number-clause-list
returns-in-Number-clause-list c =
    let fits : FitsSigned w64 c.in-Number.n = subst IsForm c.in-Number.is c.self.invariant in
    let text : c.args.self.now ≡ signed_decimal c.in-Number.n = sym c.self.view_is ∙ ap form_text c.in-Number.is in
    ap list_of text ∙ list_of-number c.in-Number.n fits ∙ ap (λ t. Ok (t ∷ [])) (sym text)
