use Rattle.std.proofs.Common.{◌≡◌, nat_eq, true, false, of_z, w64, arith}
use Rattle.std.proofs.lemmas.Bool.Decides.{nat_tests}
use Rattle.tcl_expression_evaluation.proofs.FirstNumbers.{and_told, and_needs, or_told, or_needs}
use Rattle.tcl_expression_evaluation.proofs.at_hand.answer_of_first.Goals as goal

pub returns-then-first-eq0 : goal.returns-then-first-eq0
returns-then-first-eq0 c =
    let none = c.if-first-eq0.true in
    let is : nat_eq (of_z w64 c.args.first) 0 ≡ true = grind (arith, nat_tests) in
    and_told c.args.operator c.args.first c.in-And.is c.ranges.first is

pub returns-else-first-eq0 : goal.returns-else-first-eq0
returns-else-first-eq0 c =
    let some = c.if-first-eq0.false in
    let is : nat_eq (of_z w64 c.args.first) 0 ≡ false = grind (arith, nat_tests) in
    and_needs c.args.operator c.args.first c.in-And.is c.ranges.first is

pub returns-then-first-eq0-2 : goal.returns-then-first-eq0-2
returns-then-first-eq0-2 c =
    let none = c.if-first-eq0-2.true in
    let is : nat_eq (of_z w64 c.args.first) 0 ≡ true = grind (arith, nat_tests) in
    or_needs c.args.operator c.args.first c.in-Or.is c.ranges.first is

pub returns-else-first-eq0-2 : goal.returns-else-first-eq0-2
returns-else-first-eq0-2 c =
    let some = c.if-first-eq0-2.false in
    let is : nat_eq (of_z w64 c.args.first) 0 ≡ false = grind (arith, nat_tests) in
    or_told c.args.operator c.args.first c.in-Or.is c.ranges.first is
