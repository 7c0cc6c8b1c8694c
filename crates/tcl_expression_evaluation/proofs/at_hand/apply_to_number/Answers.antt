use Rattle.std.proofs.Common.{◌≡◌, nat_eq, true, false, of_z, w64, arith}
use Rattle.std.proofs.lemmas.Bool.Decides.{nat_tests}
use Rattle.tcl_expression_evaluation.proofs.Operators.{not_at}
use Rattle.tcl_expression_evaluation.proofs.at_hand.apply_to_number.Goals as goal

pub returns-then-x-eq0 : goal.returns-then-x-eq0
returns-then-x-eq0 c =
    let none = c.if-x-eq0.true in
    let is : nat_eq (of_z w64 c.args.x) 0 ≡ true = grind (arith, nat_tests) in
    not_at c.args.operator c.args.x true c.in-Not.is c.ranges.x is

pub returns-else-x-eq0 : goal.returns-else-x-eq0
returns-else-x-eq0 c =
    let some = c.if-x-eq0.false in
    let is : nat_eq (of_z w64 c.args.x) 0 ≡ false = grind (arith, nat_tests) in
    not_at c.args.operator c.args.x false c.in-Not.is c.ranges.x is
