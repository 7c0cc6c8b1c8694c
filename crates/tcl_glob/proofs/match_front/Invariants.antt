use Rattle.std.proofs.Common.{◌≡◌, ◌≤◌, length, true}
use Rattle.tcl_glob.specs.Fronts.{whole, some}
use Rattle.tcl_glob.proofs.match_front.Given as goal
use denote.Shadow.{shadow}
use denote.Text.{Utf8}

abbrev pub invariant-items : goal.invariant-items
invariant-items l =
    shadow (Utf8 l.left) × shadow (Utf8 l.rest)
    × (whole l.nocase l.pattern l.text ≡ whole l.nocase l.left l.rest)
    × (some l.nocase l.pattern l.text ≡ true → some l.nocase l.left l.rest ≡ true)
    × (length l.left ≤ length l.pattern) × (length l.rest ≤ length l.text)

abbrev pub decreases-items : goal.decreases-items
decreases-items l = length l.left
