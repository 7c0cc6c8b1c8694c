use Rattle.std.proofs.Common.{ℕ, ◌≡◌, ◌≤◌, ◌<◌, ◌+◌, ◌/◌, ◌%◌, ◌^◌, ◌∷◌, [], length, ap, arith, length-append}
use Rattle.std.proofs.lemmas.Fmt.{decimal_digit, decimal_step, length-decimal-le}
use Rattle.std.specs.Fmt.{decimal}
use Rattle.tcl_text.proofs.integer.digit_count.Goals as goal

few : (n : ℕ) → n < 2 ^ 64 → length (decimal n) ≤ 20
few n small = length-decimal-le 20 n (omega arith) (omega arith) small

pub overflow_add-count : goal.overflow_add-count
overflow_add-count c = omega (arith, few c.args.number c.ranges.number.fits, c.digits.invariant.1)

pub digits-preserved : goal.digits-preserved
digits-preserved c =
    let n = c.digits.left in
    let step = ap length (decimal_step n (omega (arith, c.digits-test.true)) (omega (arith, c.digits.auto.left-fits))) in
    let more = length-append (decimal (n / 10)) ((48 + n % 10) ∷ []) in
    (omega (arith, c.digits.invariant.0), omega (arith, step, more, c.digits.invariant.1))

pub returns-clause-digits : goal.returns-clause-digits
returns-clause-digits c =
    let one = ap length (decimal_digit c.digits.left (omega (arith, c.digits-test.false))) in
    omega (arith, one, c.digits.invariant.1)

pub returns-clause-few : goal.returns-clause-few
returns-clause-few c =
    let one = ap length (decimal_digit c.digits.left (omega (arith, c.digits-test.false))) in
    omega (arith, one, few c.args.number c.ranges.number.fits, c.digits.invariant.1)
