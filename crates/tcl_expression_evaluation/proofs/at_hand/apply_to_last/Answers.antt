use Rattle.std.proofs.Common.{rules, ◌∙◌, ap, ◌++◌, ◌∷◌, [], FitsSigned, w64}
use Rattle.std.proofs.lemmas.Int.{to_z-of_z}
use Rattle.tcl_expression_evaluation.proofs.UnderWay.{one_gone}
use Rattle.tcl_expression_evaluation.proofs.at_hand.apply_to_last.Goals as goal

pub returns : goal.returns
returns c = λ frames style more.
    let n = c.in_ok-number.number in
    let fits : FitsSigned w64 c.in_ok-x.x = search rules in
    let fits' : FitsSigned w64 n = search rules in
    let made = rw (to_z-of_z w64 c.in_ok-x.x fits) at c.in_ok-number.ensures in
    one_gone frames style c.args.operator more c.args.waiting.now.items c.pop.new.self.items c.wait.new.waiting.items c.in_ok-x.x n c.in_ok-x.ensures.items fits' made
    (c.in_ok-wait.ensures ∙ ap (λ z. c.pop.new.self.items ++ z ∷ []) (to_z-of_z w64 n fits'))
