use Rattle.std.proofs.Common.{◌≡◌, ◌≤◌, ◌+◌, ◌-◌, take, length}
use Rattle.tcl_characters.proofs.StartLemmas.{starts}
use Rattle.tcl_characters.proofs.starts.start_behind.Given as goal

abbrev pub invariant-whole : goal.invariant-whole
invariant-whole l = (l.at ≤ length l.bytes) × (starts (take l.at l.bytes) + l.left ≡ l.count)

abbrev pub decreases-whole : goal.decreases-whole
decreases-whole l = length l.bytes - l.at

abbrev pub invariant-bytes : goal.invariant-bytes
invariant-bytes l = (l.at ≤ length l.bytes) × (starts (take l.at l.bytes) + l.left ≡ l.count)

abbrev pub decreases-bytes : goal.decreases-bytes
decreases-bytes l = length l.bytes - l.at
