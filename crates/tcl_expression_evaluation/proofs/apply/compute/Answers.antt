use Rattle.std.proofs.Common.{rules, ◌∙◌, sym, FitsSigned, w64}
use Rattle.tcl_arithmetic.proofs.Divisions.{plain}
use Rattle.tcl_expression_evaluation.specs.WholeNumbers.{and_of, xor_of, or_of}
use Rattle.tcl_expression_evaluation.proofs.Numbers.{AllFit, quotient_is, rest_is, shifted_is, same_digits}
use Rattle.tcl_expression_evaluation.proofs.Digitwise.{digitwise}
use Rattle.tcl_expression_evaluation.proofs.apply.compute.Goals as goal

pub returns-in-Divide : goal.returns-in-Divide
returns-in-Divide c =
    let fits : AllFit c.quotient.result = search rules in
    let is = rw (plain c.args.x c.ranges.x, plain c.args.y c.ranges.y) at c.quotient.ensures.quotient in
    let zero = rw (plain c.args.y c.ranges.y) at c.quotient.ensures.zero in
    let none = rw (plain c.args.x c.ranges.x, plain c.args.y c.ranges.y) at c.quotient.ensures.fault in
    rw c.in-Divide.is (quotient_is c.quotient.result c.args.x c.args.y fits is none zero.1)

pub returns-in-Remainder : goal.returns-in-Remainder
returns-in-Remainder c =
    let fits : AllFit c.remainder.result = search rules in
    let is = rw (plain c.args.x c.ranges.x, plain c.args.y c.ranges.y) at c.remainder.ensures.remainder in
    let none = rw (plain c.args.y c.ranges.y) at c.remainder.ensures.fault in
    rw c.in-Remainder.is (rest_is c.remainder.result c.args.x c.args.y fits is none)

pub returns-in-ShiftRight : goal.returns-in-ShiftRight
returns-in-ShiftRight c =
    let fits : AllFit c.shift_right.result = search rules in
    let is = rw (plain c.args.x c.ranges.x, plain c.args.y c.ranges.y) at c.shift_right.ensures.quotient in
    let below = rw (plain c.args.y c.ranges.y) at c.shift_right.ensures.negative in
    let none = rw (plain c.args.y c.ranges.y) at c.shift_right.ensures.fault in
    rw c.in-ShiftRight.is (shifted_is c.shift_right.result c.args.x c.args.y fits is below none)

pub returns-in-BitAnd : goal.returns-in-BitAnd
returns-in-BitAnd c =
    let fits : FitsSigned w64 c.bitwise_and.result = search rules in
    let digits = rw (plain c.args.x c.ranges.x, plain c.args.y c.ranges.y) at c.bitwise_and.ensures in
    rw (c.in-BitAnd.is, plain c.bitwise_and.result fits) (same_digits c.bitwise_and.result (and_of c.args.x c.args.y) fits (λ i. digits i ∙ sym (digitwise c.args.x c.args.y i).both))

pub returns-in-BitXor : goal.returns-in-BitXor
returns-in-BitXor c =
    let fits : FitsSigned w64 c.bitwise_xor.result = search rules in
    let digits = rw (plain c.args.x c.ranges.x, plain c.args.y c.ranges.y) at c.bitwise_xor.ensures in
    rw (c.in-BitXor.is, plain c.bitwise_xor.result fits) (same_digits c.bitwise_xor.result (xor_of c.args.x c.args.y) fits (λ i. digits i ∙ sym (digitwise c.args.x c.args.y i).one))

pub returns-in-BitOr : goal.returns-in-BitOr
returns-in-BitOr c =
    let fits : FitsSigned w64 c.bitwise_or.result = search rules in
    let digits = rw (plain c.args.x c.ranges.x, plain c.args.y c.ranges.y) at c.bitwise_or.ensures in
    rw (c.in-BitOr.is, plain c.bitwise_or.result fits) (same_digits c.bitwise_or.result (or_of c.args.x c.args.y) fits (λ i. digits i ∙ sym (digitwise c.args.x c.args.y i).either))
