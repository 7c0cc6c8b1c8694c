use Rattle.std.proofs.Common.{rules, ◌∙◌, ap, ◌++◌, ◌∷◌, [], FitsSigned, w64}
use Rattle.std.proofs.lemmas.Int.{to_z-of_z}
use Rattle.tcl_expression_evaluation.proofs.UnderWay.{second_left_out, second_needed}
use Rattle.tcl_expression_evaluation.proofs.at_hand.take_if_needed.Goals as goal

pub returns-in_ok-wait-in-Some-clause-does : goal.returns-in_ok-wait-in-Some-clause-does
returns-in_ok-wait-in-Some-clause-does c = λ frames style.
    let x = c.in_ok-first.first in
    let n = c.in-Some.answer in
    let fits : FitsSigned w64 x = search rules in
    let fits' : FitsSigned w64 n = search rules in
    let told = rw (to_z-of_z w64 x fits) at c.in-Some.ensures in
    second_left_out frames style c.args.operator c.args.more.now c.behind_mark.result.now c.args.waiting.now.items c.pop.new.self.items c.wait.new.waiting.items x n c.in_ok-first.ensures.items told fits' (c.behind_mark.ensures.goes style)
    (c.in_ok-wait-in-Some.ensures ∙ ap (λ z. c.pop.new.self.items ++ z ∷ []) (to_z-of_z w64 n fits'))

pub returns-in_ok-wait-in-None-clause-does : goal.returns-in_ok-wait-in-None-clause-does
returns-in_ok-wait-in-None-clause-does c = λ frames style.
    let x = c.in_ok-first.first in
    let fits : FitsSigned w64 x = search rules in
    let told = rw (to_z-of_z w64 x fits) at c.in-None.ensures in
    second_needed frames style c.args.operator c.args.more.now c.args.waiting.now.items c.pop.new.self.items c.wait-in-None.new.waiting.items x c.in_ok-first.ensures.items told
    (c.in_ok-wait-in-None.ensures ∙ ap (λ z. c.pop.new.self.items ++ z ∷ []) (to_z-of_z w64 x fits))
