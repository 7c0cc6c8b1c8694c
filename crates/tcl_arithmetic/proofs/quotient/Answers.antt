use Rattle.std.proofs.Common.{rules, ◌≡◌, ap, ◌∙◌, true, false, ℤ, pos, ◌-ℤ◌, ◌+ℤ◌, FitsSigned, to_z, of_z, w64}
use Rattle.std.specs.Int.RustNames.{int_div, int_rem}
use Rattle.tcl_arithmetic.specs.Division.{is_across}
use Rattle.tcl_arithmetic.proofs.Divisions.{stays, moves, plain, is_some}
use Rattle.tcl_arithmetic.proofs.quotient.Goals as goal

pub returns-then-is_across-clause-quotient : goal.returns-then-is_across-clause-quotient
returns-then-is_across-clause-quotient c = let fits : FitsSigned w64 (c.in_ok-toward_zero.toward_zero -ℤ pos 1) = search rules in
    let there : FitsSigned w64 c.in_ok-toward_zero.toward_zero = search rules in
    let is : c.in_ok-toward_zero.toward_zero ≡ int_div c.args.a c.args.b = search rules in
    let at_a = plain c.args.a c.ranges.a in
    let at_b = plain c.args.b c.ranges.b in
    let at_rest = plain c.rest_of.result (record { sfits = c.rest_of.type_inv }) in
    let rest : c.rest_of.result ≡ int_rem c.args.a c.args.b = cc in
    let across : is_across c.args.b c.rest_of.result ≡ true = cc in
    let out : to_z w64 (of_z w64 (to_z w64 (of_z w64 c.in_ok-toward_zero.toward_zero) -ℤ pos 1)) ≡ c.in_ok-toward_zero.toward_zero -ℤ pos 1 =
    ap (λ (x : ℤ). to_z w64 (of_z w64 (x -ℤ pos 1))) (plain c.in_ok-toward_zero.toward_zero there) ∙ plain (c.in_ok-toward_zero.toward_zero -ℤ pos 1) fits in
    (c.rest_of.result +ℤ c.args.b, rw out (moves c.args.a c.args.b c.in_ok-toward_zero.toward_zero c.rest_of.result (is_some c.args.b c.if-b-eq0.false) is rest across))

pub returns-else-is_across-clause-quotient : goal.returns-else-is_across-clause-quotient
returns-else-is_across-clause-quotient c =
    let there : FitsSigned w64 c.in_ok-toward_zero.toward_zero = search rules in
    let is : c.in_ok-toward_zero.toward_zero ≡ int_div c.args.a c.args.b = search rules in
    let at_a = plain c.args.a c.ranges.a in
    let at_b = plain c.args.b c.ranges.b in
    let at_rest = plain c.rest_of.result (record { sfits = c.rest_of.type_inv }) in
    let rest : c.rest_of.result ≡ int_rem c.args.a c.args.b = cc in
    let across : is_across c.args.b c.rest_of.result ≡ false = cc in
    (c.rest_of.result, rw (plain c.in_ok-toward_zero.toward_zero there) (stays c.args.a c.args.b c.in_ok-toward_zero.toward_zero c.rest_of.result (is_some c.args.b c.if-b-eq0.false) is rest across))
