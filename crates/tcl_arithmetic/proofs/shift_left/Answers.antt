use Rattle.std.proofs.Common.{◌≡◌, ◌∙◌, refl, ap, pos, ◌≤◌, to_z, of_z, w64, arith}
use Rattle.std.proofs.lemmas.Int.{ints}
use Rattle.tcl_arithmetic.proofs.Divisions.{plain, is_some}
use Rattle.tcl_arithmetic.proofs.Shifts.{past}
use Rattle.tcl_arithmetic.proofs.shift_left.Goals as goal
use Rattle.tcl_arithmetic.proofs.shift_left.Goals.{else-a-eqminus1-via-then-a-eqminus1+else-places-eq63, else-a-eqminus1-via-else-a-eqminus1}

pub returns-clause-product : goal.returns-clause-product
returns-clause-product c = λ n e.
    let places : to_z w64 (of_z w64 c.args.places) ≡ pos n = plain c.args.places c.ranges.places ∙ e in
    let far : 63 ≤ n = omega (arith, ints) in (
      refl,
      past c.args.a n (is_some c.args.a c.if-a-eq0.false) far (λ minus last. elim c.else-a-eqminus1.branch [
        | else-a-eqminus1-via-then-a-eqminus1+else-places-eq63 w ↦ w.if-places-eq63.false (ap (of_z w64) (e ∙ ap pos last))
        | else-a-eqminus1-via-else-a-eqminus1 w ↦ w.if-a-eqminus1.false (ap (of_z w64) minus)
      ]),
    )
