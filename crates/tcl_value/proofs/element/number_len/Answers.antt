use Rattle.std.proofs.Common.{ap, ◌∙◌, sym, length, w64, arith}
use Rattle.std.proofs.lemmas.Int.{to_z-of_z}
use Rattle.std.specs.Fmt.{signed_decimal}
use Rattle.tcl_value.proofs.Numbers.{digits_at_most}
use Rattle.tcl_value.proofs.Written.{write_element-number}
use Rattle.tcl_value.proofs.element.number_len.Goals as goal

pub returns-clause-len : goal.returns-clause-len
returns-clause-len c =
    c.int_len.ensures
    ∙ ap (λ z. length (signed_decimal z)) (to_z-of_z w64 c.args.n c.ranges.n)
    ∙ sym (ap length (write_element-number c.args.first c.args.n c.ranges.n))

pub returns-clause-few : goal.returns-clause-few
returns-clause-few c =
    let same = ap (λ z. length (signed_decimal z)) (to_z-of_z w64 c.args.n c.ranges.n) in
    omega (arith, c.int_len.ensures, digits_at_most c.args.n c.ranges.n)
