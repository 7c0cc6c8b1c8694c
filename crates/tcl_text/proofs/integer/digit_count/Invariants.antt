use Rattle.std.proofs.Common.{◌+◌, ◌-◌, ◌≡◌, ◌≤◌, length}
use Rattle.std.specs.Fmt.{decimal}
use Rattle.tcl_text.proofs.integer.digit_count.Given as goal

abbrev pub invariant-digits : goal.invariant-digits
invariant-digits l = (l.left ≤ l.number) × (l.count + length (decimal l.left) ≡ length (decimal l.number) + 1)

abbrev pub decreases-digits : goal.decreases-digits
decreases-digits l = l.left
