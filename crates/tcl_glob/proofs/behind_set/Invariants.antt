use Rattle.std.proofs.Common.{◌≡◌, ◌≤◌, length}
use Rattle.tcl_glob.specs.Patterns.{letters}
use Rattle.tcl_glob.specs.Fronts.{behind_set}
use Rattle.tcl_glob.proofs.behind_set.Given as goal
use denote.Shadow.{shadow}
use denote.Text.{Utf8}

abbrev pub invariant-letters : goal.invariant-letters
invariant-letters l =
    shadow (Utf8 l.rest) × (behind_set (letters l.nocase l.rest) ≡ behind_set (letters l.nocase l.body)) × (length l.rest ≤ length l.body)

abbrev pub decreases-letters : goal.decreases-letters
decreases-letters l = length l.rest
