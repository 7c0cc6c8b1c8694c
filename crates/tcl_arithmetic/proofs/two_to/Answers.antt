use Rattle.std.proofs.Common.{◌≡◌, ◌∙◌, ap, ℤ, pos, ◌*◌, ◌^◌, ◌%◌, ◌<◌, unsigned_abs, to_z, of_z, w64, arith}
use Rattle.std.proofs.lemmas.Int.{ints, to_z_pos}
use Rattle.std.proofs.lemmas.Nat.{one_shl}
use Rattle.tcl_arithmetic.proofs.Divisions.{plain}
use Rattle.tcl_arithmetic.proofs.Shifts.{small_power_of_two}
use Rattle.tcl_arithmetic.proofs.two_to.Goals as goal

pub returns : goal.returns
returns c = λ n e.
    let is : to_z w64 (of_z w64 c.args.exponent) ≡ pos n = plain c.args.exponent c.ranges.exponent ∙ e in
    let small : n < 63 = omega (arith, ints) in
    ap (λ (x : ℤ). to_z w64 (1 * 2 ^ unsigned_abs x % 18446744073709551616)) is ∙ ap (to_z w64) (one_shl n 64 (omega arith)) ∙ to_z_pos w64 (2 ^ n) (small_power_of_two n small)
