use Rattle.std.proofs.Common.{◌∙◌, ap, ◌++◌, ◌∷◌, [], w64}
use Rattle.std.proofs.lemmas.Int.{to_z-of_z}
use Rattle.tcl_expression_evaluation.proofs.UnderWay.{first_waits}
use Rattle.tcl_expression_evaluation.proofs.at_hand.number_among.Goals as goal

pub returns : goal.returns
returns c = λ text reads.
    c.number_of_steps.ensures (text ∷ [])
    (first_waits c.args.style text c.args.first c.new-waiting.result.items c.push.new.self.items c.new-waiting.ensures
    (c.push.ensures.items ∙ ap (λ z. c.new-waiting.result.items ++ z ∷ []) (to_z-of_z w64 c.args.first c.ranges.first)) reads)
