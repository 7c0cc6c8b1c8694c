use Rattle.std.proofs.Common.{◌≡◌, ◌-◌, ◌≤◌, List, length, drop}
use Rattle.tcl_text.specs.declared.integer.Integers.{Integers}
use Rattle.tcl_value.specs.Limits.{Bytes}
use Rattle.tcl_expression_evaluation.specs.Steps.{leaving, goes}
use Rattle.tcl_expression_evaluation.proofs.evaluation.Evaluation.skip.Given as goal

abbrev pub invariant-marks : goal.invariant-marks
invariant-marks l = record {
  goes_on : (style : Integers) (s : List Bytes) → goes style (drop l.initial.self.next l.nodes) (leaving 0) s ≡ goes style (drop l.self.next l.nodes) (leaving l.depth) s;
  values : l.self.values.items ≡ l.initial.self.values.items;
  nested : l.depth ≤ l.self.next;
  later : l.initial.self.next ≤ l.self.next;
}

abbrev pub decreases-marks : goal.decreases-marks
decreases-marks l = length l.nodes - l.self.next
