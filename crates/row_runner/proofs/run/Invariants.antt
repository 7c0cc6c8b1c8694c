use Rattle.std.proofs.Common.{◌≤◌}
use Rattle.row_runner.proofs.run.Given as goal

abbrev pub invariant-rows : goal.invariant-rows
invariant-rows g l =
    (goal.iterator-rows g).can_next l.line-iterator ×
    (goal.iterator-rows g).is_finite l.line-iterator × (l.tally.1.0 ≤ l.tally.0)
