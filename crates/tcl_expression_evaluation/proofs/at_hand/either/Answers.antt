use Rattle.std.proofs.Common.{◌≡◌, nat_eq, true, false, of_z, w64, arith}
use Rattle.std.proofs.lemmas.Bool.Decides.{nat_tests}
use Rattle.tcl_expression_evaluation.proofs.FirstNumbers.{first_true, second_alone}
use Rattle.tcl_expression_evaluation.proofs.at_hand.either.Goals as goal

pub returns-then-x-ne0 : goal.returns-then-x-ne0
returns-then-x-ne0 c =
    let some = c.if-x-ne0.true in
    let is : nat_eq (of_z w64 c.args.x) 0 ≡ false = grind (arith, nat_tests) in
    first_true c.args.x c.args.y c.ranges.x is

pub returns-then-y-eq0 : goal.returns-then-y-eq0
returns-then-y-eq0 c =
    let first = c.if-x-ne0.false in
    let none = c.if-y-eq0.true in
    let is : nat_eq (of_z w64 c.args.x) 0 ≡ true = grind (arith, nat_tests) in
    let is' : nat_eq (of_z w64 c.args.y) 0 ≡ true = grind (arith, nat_tests) in
    second_alone c.args.x c.args.y true c.ranges.x c.ranges.y is is'

pub returns-else-y-eq0 : goal.returns-else-y-eq0
returns-else-y-eq0 c =
    let first = c.if-x-ne0.false in
    let more = c.if-y-eq0.false in
    let is : nat_eq (of_z w64 c.args.x) 0 ≡ true = grind (arith, nat_tests) in
    let is' : nat_eq (of_z w64 c.args.y) 0 ≡ false = grind (arith, nat_tests) in
    second_alone c.args.x c.args.y false c.ranges.x c.ranges.y is is'
