use Rattle.std.proofs.Common.{rules, refl, ◌≡◌, ap, ◌∙◌, true, false, ℤ, pos, ◌-ℤ◌, ◌+ℤ◌, FitsSigned, to_z, of_z, w64}
use Rattle.std.specs.Int.RustNames.{int_div, int_rem}
use Rattle.std.proofs.Math.IntN.{neg_ℤ}
use Rattle.tcl_arithmetic.specs.Division.{is_across}
use Rattle.tcl_arithmetic.proofs.Divisions.{stays, moves, plain, is_some, is_minus_one, by_minus_one}
use Rattle.tcl_arithmetic.proofs.remainder.Goals as goal

pub returns-then-b-eqminus1-clause-remainder : goal.returns-then-b-eqminus1-clause-remainder
returns-then-b-eqminus1-clause-remainder c =
    (neg_ℤ c.args.a, rw (is_minus_one c.args.b c.ranges.b c.if-b-eqminus1.true) (by_minus_one c.args.a))

pub returns-then-is_across-clause-remainder : goal.returns-then-is_across-clause-remainder
returns-then-is_across-clause-remainder c =
    let at_a = plain c.args.a c.ranges.a in
    let at_b = plain c.args.b c.ranges.b in
    let at_rest = plain c.rest_of-rest.result (record { sfits = c.rest_of-rest.type_inv }) in
    let fits : FitsSigned w64 (c.rest_of-rest.result +ℤ c.args.b) = search rules in
    let rest : c.rest_of-rest.result ≡ int_rem c.args.a c.args.b = cc in
    let across : is_across c.args.b c.rest_of-rest.result ≡ true = cc in
    let out : to_z w64 (of_z w64 (to_z w64 (of_z w64 c.rest_of-rest.result) +ℤ to_z w64 (of_z w64 c.args.b))) ≡ c.rest_of-rest.result +ℤ c.args.b =
    ap (λ (x : ℤ). to_z w64 (of_z w64 (x +ℤ to_z w64 (of_z w64 c.args.b)))) at_rest ∙ ap (λ (x : ℤ). to_z w64 (of_z w64 (c.rest_of-rest.result +ℤ x))) at_b ∙ plain (c.rest_of-rest.result +ℤ c.args.b) fits in
    (int_div c.args.a c.args.b -ℤ pos 1, rw out (moves c.args.a c.args.b (int_div c.args.a c.args.b) c.rest_of-rest.result (is_some c.args.b c.if-b-eq0.false) refl rest across))

pub returns-else-is_across-clause-remainder : goal.returns-else-is_across-clause-remainder
returns-else-is_across-clause-remainder c =
    let at_a = plain c.args.a c.ranges.a in
    let at_b = plain c.args.b c.ranges.b in
    let at_rest = plain c.rest_of-rest.result (record { sfits = c.rest_of-rest.type_inv }) in
    let rest : c.rest_of-rest.result ≡ int_rem c.args.a c.args.b = cc in
    let across : is_across c.args.b c.rest_of-rest.result ≡ false = cc in
    (int_div c.args.a c.args.b, rw at_rest (stays c.args.a c.args.b (int_div c.args.a c.args.b) c.rest_of-rest.result (is_some c.args.b c.if-b-eq0.false) refl rest across))
