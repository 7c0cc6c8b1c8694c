use Rattle.std.proofs.Common.{◌≡◌, ◌∙◌, ap, ℤ, pos, ◌≤◌, ◌^◌, ◌<ℤ◌, ◌≤ℤ◌, unsigned_abs, to_z, of_z, w64, arith}
use Rattle.std.specs.Int.{int_shr}
use Rattle.std.proofs.lemmas.Int.{ints}
use Rattle.std.proofs.lemmas.Nat.{pow_pos}
use Rattle.tcl_arithmetic.proofs.Divisions.{plain}
use Rattle.tcl_arithmetic.proofs.Shifts.{shifted, below_zero, from_zero}
use Rattle.tcl_arithmetic.proofs.shift_right.Goals as goal

pub returns-then-places-lt63-clause-quotient : goal.returns-then-places-lt63-clause-quotient
returns-then-places-lt63-clause-quotient c = λ n e.
    let is : to_z w64 (of_z w64 c.args.places) ≡ pos n = plain c.args.places c.ranges.places ∙ e in
    let times : unsigned_abs (to_z w64 (of_z w64 c.args.places)) ≡ n = ap unsigned_abs is in
    let given : c.halved.result ≡ int_shr c.args.a n = c.halved.ensures ∙ ap (λ (x : ℤ). int_shr x (unsigned_abs (to_z w64 (of_z w64 c.args.places)))) (plain c.args.a c.ranges.a) ∙ ap (int_shr c.args.a) times in
    let shown : to_z w64 (of_z w64 c.halved.result) ≡ int_shr c.args.a n = plain c.halved.result (record { sfits = c.halved.type_inv }) ∙ given in
    rw shown (shifted c.args.a (2 ^ n) (pow_pos n))

pub returns-then-a-lt0-clause-quotient : goal.returns-then-a-lt0-clause-quotient
returns-then-a-lt0-clause-quotient c = λ n e.
    let is : to_z w64 (of_z w64 c.args.places) ≡ pos n = plain c.args.places c.ranges.places ∙ e in
    let far : 63 ≤ n = omega (arith, ints) in
    let below : c.args.a <ℤ pos 0 = omega (arith, ints) in
    below_zero c.args.a n c.ranges.a far below

pub returns-else-a-lt0-clause-quotient : goal.returns-else-a-lt0-clause-quotient
returns-else-a-lt0-clause-quotient c = λ n e.
    let is : to_z w64 (of_z w64 c.args.places) ≡ pos n = plain c.args.places c.ranges.places ∙ e in
    let far : 63 ≤ n = omega (arith, ints) in
    let from : pos 0 ≤ℤ c.args.a = omega (arith, ints) in
    from_zero c.args.a n c.ranges.a far from
