use Rattle.std.proofs.Common.{◌≡◌, Ok, length}
use Rattle.tcl_value.specs.Limits.{Bytes}
use Rattle.tcl_value.specs.Reading.{int_of}
use Rattle.tcl_expression_evaluation.proofs.UnderWay.{Along}
use Rattle.tcl_expression_evaluation.proofs.at_hand.number_along.Given as goal

abbrev pub invariant-links : goal.invariant-links
invariant-links l = (text : Bytes) → int_of l.style text ≡ Ok l.first → Along l.frames.frames l.style text l.nodes l.rest l.number

abbrev pub decreases-links : goal.decreases-links
decreases-links l = length l.rest
