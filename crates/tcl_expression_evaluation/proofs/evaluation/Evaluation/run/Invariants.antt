use Rattle.std.proofs.Common.{◌≡◌, ◌-◌, ◌≤◌, length}
use Rattle.tcl_expression_evaluation.specs.Steps.{from}
use Rattle.tcl_expression_evaluation.proofs.evaluation.Evaluation.run.Given as goal

abbrev pub invariant-steps : goal.invariant-steps
invariant-steps l = record {
  same : from l.style l.nodes l.initial.self.next l.initial.self.values.items ≡ from l.style l.nodes l.self.next l.self.values.items;
  later : l.initial.self.next ≤ l.self.next;
}

abbrev pub decreases-steps : goal.decreases-steps
decreases-steps l = length l.nodes - l.self.next
