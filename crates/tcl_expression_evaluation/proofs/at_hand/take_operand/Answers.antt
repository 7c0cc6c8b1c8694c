use Rattle.std.proofs.Common.{rules, ◌∙◌, ap, ◌++◌, ◌∷◌, [], FitsSigned, w64}
use Rattle.std.proofs.lemmas.Int.{to_z-of_z}
use Rattle.tcl_expression_evaluation.proofs.UnderWay.{operand_taken}
use Rattle.tcl_expression_evaluation.proofs.at_hand.take_operand.Goals as goal

pub returns-clause-does : goal.returns-clause-does
returns-clause-does c =
    let n = c.in_ok-number.number in
    let fits : FitsSigned w64 n = search rules in
    operand_taken c.args.frames.now.frames c.args.style c.args.leaf.now c.args.more.now c.in_ok-number.rest.now c.args.waiting.now.items c.wait.new.waiting.items _ n c.in_ok-value.ensures c.in_ok-number.ensures
    (c.in_ok-wait.ensures ∙ ap (λ z. c.args.waiting.now.items ++ z ∷ []) (to_z-of_z w64 n fits))
