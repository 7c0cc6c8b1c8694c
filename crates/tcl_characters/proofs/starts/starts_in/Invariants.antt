use Rattle.std.proofs.Common.{◌≡◌, ◌≤◌, ◌-◌, take, length}
use Rattle.tcl_characters.proofs.StartLemmas.{starts}
use Rattle.tcl_characters.proofs.starts.starts_in.Given as goal

abbrev pub invariant-whole : goal.invariant-whole
invariant-whole l = (l.at ≤ length l.bytes) × (l.count ≡ starts (take l.at l.bytes))

abbrev pub decreases-whole : goal.decreases-whole
decreases-whole l = length l.bytes - l.at
