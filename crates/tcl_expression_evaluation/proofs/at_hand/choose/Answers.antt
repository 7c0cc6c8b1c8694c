use Rattle.std.proofs.Common.{◌≡◌, rules, arith, nat_eq, true, false, of_z, FitsSigned, w64}
use Rattle.std.proofs.lemmas.Bool.Decides.{nat_tests}
use Rattle.tcl_expression_evaluation.proofs.UnderWay.{third_taken, second_taken}
use Rattle.tcl_expression_evaluation.proofs.at_hand.choose.Goals as goal

pub returns-then-first-eq0-clause-does : goal.returns-then-first-eq0-clause-does
returns-then-first-eq0-clause-does c = λ frames style.
    let x = c.in_ok-first.first in
    let fits : FitsSigned w64 x = search rules in
    let none = c.if-first-eq0.true in
    let is : nat_eq (of_z w64 x) 0 ≡ true = grind (arith, nat_tests) in
    third_taken frames style c.args.more.now c.behind_mark.result.now c.args.waiting.now.items c.pop.new.self.items x c.in_ok-first.ensures.items fits is (c.behind_mark.ensures.goes style)

pub returns-clause-does : goal.returns-clause-does
returns-clause-does c = λ frames style.
    let x = c.in_ok-first.first in
    let fits : FitsSigned w64 x = search rules in
    let some = c.if-first-eq0.false in
    let is : nat_eq (of_z w64 x) 0 ≡ false = grind (arith, nat_tests) in
    second_taken frames style c.args.more.now c.args.waiting.now.items c.pop.new.self.items x c.in_ok-first.ensures.items fits is
