use Rattle.std.proofs.Common.{◌≡◌, length}
use Rattle.tcl_glob.specs.Patterns.{letters}
use Rattle.tcl_characters.specs.Order.{order}
use Rattle.tcl_characters.proofs.order.compare.Given as goal
use denote.Shadow.{shadow}
use denote.Text.{Utf8}

abbrev pub invariant-letters : goal.invariant-letters
invariant-letters l =
    shadow (Utf8 l.left) × shadow (Utf8 l.right) × (order (letters l.nocase l.a) (letters l.nocase l.b) ≡ order (letters l.nocase l.left) (letters l.nocase l.right))

abbrev pub decreases-letters : goal.decreases-letters
decreases-letters l = length l.left
