use Rattle.std.proofs.Common.{◌≡◌, length, drop}
use Rattle.std.specs.Str.{chars}
use Rattle.tcl_glob.specs.Patterns.{letters}
use Rattle.tcl_characters.specs.Places.{begins}
use Rattle.tcl_characters.proofs.mapping.behind_key.Given as goal
use denote.Shadow.{shadow}
use denote.Text.{Utf8}

abbrev pub invariant-letters : goal.invariant-letters
invariant-letters l =
    shadow (Utf8 l.left) × shadow (Utf8 l.rest)
    × (begins (letters l.nocase l.key) (letters l.nocase l.text) ≡ begins (letters l.nocase l.left) (letters l.nocase l.rest))
    × (drop (length (chars l.key)) (chars l.text) ≡ drop (length (chars l.left)) (chars l.rest))

abbrev pub decreases-letters : goal.decreases-letters
decreases-letters l = length l.left
