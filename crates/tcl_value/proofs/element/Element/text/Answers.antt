use Rattle.std.proofs.Common.{arith, ap, subst, w64, FitsSigned, length}
use Rattle.std.specs.Fmt.{signed_decimal}
use Rattle.std.specs.String.{string_bytes}
use Rattle.std.proofs.lemmas.Int.{to_z-of_z}
use Rattle.tcl_value.specs.Texts.{IsElement}
use Rattle.tcl_value.proofs.Numbers.{digits_at_most}
use Rattle.tcl_value.proofs.Removed.{within_at}
use Rattle.tcl_value.proofs.element.Element.text.Goals as goal

pub returns-in_ok-write_int-in-Number-clause-within :
    goal.returns-in_ok-write_int-in-Number-clause-within
returns-in_ok-write_int-in-Number-clause-within c =
    let fits : FitsSigned w64 c.in-Number.n = subst IsElement c.in-Number.is c.requires in
    let long = ap length c.in_ok-write_int-in-Number.ensures in
    let same = ap (λ z. length (signed_decimal z)) (to_z-of_z w64 c.in-Number.n fits) in
    within_at c.from_string.result (string_bytes c.in_ok-write_int-in-Number.field-0) c.from_string.ensures (omega (arith, digits_at_most c.in-Number.n fits))
