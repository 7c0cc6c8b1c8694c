use Rattle.std.proofs.Common.{◌≡◌, ◌+◌, ◌≤◌, List, length}
use Rattle.tcl_text.specs.declared.integer.Integers.{Integers}
use Rattle.tcl_value.specs.Limits.{Bytes}
use Rattle.tcl_expression_evaluation.specs.Steps.{leaving, goes}
use Rattle.tcl_expression_evaluation.proofs.at_hand.behind_mark.Given as goal

abbrev pub invariant-marks : goal.invariant-marks
invariant-marks l = record {
  goes_on : (style : Integers) (texts : List Bytes) → goes style l.nodes (leaving 0) texts ≡ goes style l.rest (leaving l.depth) texts;
  nested : l.depth + length l.rest ≤ length l.nodes;
}

abbrev pub decreases-marks : goal.decreases-marks
decreases-marks l = length l.rest
