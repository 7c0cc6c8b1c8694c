use Rattle.std.proofs.Common.{◌≡◌, ◌+◌, length}
use Rattle.tcl_glob.specs.Fronts.{some}
use Rattle.tcl_glob.proofs.matches_some_end.Given as goal
use denote.Shadow.{shadow}
use denote.Text.{Utf8}

abbrev pub invariant-ends : goal.invariant-ends
invariant-ends l = shadow (Utf8 l.left) × shadow (Utf8 l.rest) × (some l.nocase l.left l.rest ≡ some l.nocase l.pattern l.text)

abbrev pub decreases-ends : goal.decreases-ends
decreases-ends l = length l.left + length l.rest
