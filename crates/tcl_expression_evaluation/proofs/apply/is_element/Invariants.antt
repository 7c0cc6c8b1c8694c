use Rattle.std.proofs.Common.{◌≡◌, drop}
use Rattle.tcl_expression_evaluation.specs.Apply.{is_among}
use Rattle.tcl_expression_evaluation.proofs.apply.is_element.Given as goal

-- no element so far
abbrev pub invariant-elements : goal.invariant-elements
invariant-elements l = is_among l.value l.list ≡ is_among l.value (drop l.i l.list)
