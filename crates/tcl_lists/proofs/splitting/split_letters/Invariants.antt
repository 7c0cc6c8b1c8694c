use Rattle.std.proofs.Common.{◌≡◌, ◌≤◌, ◌++◌, length, map}
use Rattle.std.specs.Str.{chars}
use Rattle.tcl_lists.specs.Splitting.{letter_text}
use Rattle.tcl_lists.proofs.splitting.split_letters.Given as goal
use denote.Shadow.{shadow}
use denote.Text.{Utf8}

abbrev pub invariant-letters : goal.invariant-letters
invariant-letters l =
    shadow (Utf8 l.rest)
    × (l.made ++ map letter_text (chars l.rest) ≡ map letter_text (chars l.text))
    × (length l.rest ≤ length l.text)

abbrev pub decreases-letters : goal.decreases-letters
decreases-letters l = length (chars l.rest)
