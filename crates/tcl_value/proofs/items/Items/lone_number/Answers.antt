use Rattle.std.proofs.Common.{◌≡◌, ◌∙◌, ap, sym, subst, arith, get_or, w64, FitsSigned}
use Rattle.std.specs.Fmt.{signed_decimal}
use Rattle.std.proofs.lemmas.Int.{to_z-of_z}
use Rattle.tcl_value.specs.Texts.{IsElement, element_text}
use Rattle.tcl_value.proofs.Plain.{write-alone}
use Rattle.tcl_value.proofs.items.Items.lone_number.Goals as goal

pub returns-in-Number : goal.returns-in-Number
returns-in-Number c =
    let n = c.in-Number.n in
    let fits : FitsSigned w64 n = subst IsElement c.in-Number.is c.get.ensures.element in
    write-alone c.args.self.now n fits (omega (arith, c.len.ensures)) (subst (λ x. element_text x ≡ get_or c.args.self.now 0 (element_text x)) c.in-Number.is c.get.ensures.text)
    ∙ ap signed_decimal (sym (to_z-of_z w64 n fits))
