use Rattle.std.proofs.Common.{◌≡◌, ◌≤◌, ◌++◌, reverse, drop, length}
use Rattle.tcl_flow.proofs.reading.push_entries.Given as goal

abbrev pub decreases-entries : goal.decreases-entries
decreases-entries l = l.left

abbrev pub invariant-entries : goal.invariant-entries
invariant-entries l = (l.left ≤ length l.dict) × (l.pending.items ≡ l.initial.pending.items ++ reverse (drop l.left l.dict))
