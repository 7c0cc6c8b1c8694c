use Rattle.std.proofs.Common.{List, length}
use Rattle.tcl_value.specs.Limits.{Bytes}
use Rattle.tcl_expression_evaluation.specs.AtHand.{ReadAs, Follows}
use Rattle.tcl_expression_evaluation.proofs.at_hand.number_of_steps.Given as goal

abbrev pub invariant-steps : goal.invariant-steps
invariant-steps l = (texts : List Bytes) → ReadAs l.style texts l.fn.waiting.items → Follows l.frames.frames l.style texts l.nodes l.rest l.waiting.items

abbrev pub decreases-steps : goal.decreases-steps
decreases-steps l = length l.rest
