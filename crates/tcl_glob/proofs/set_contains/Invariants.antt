use Rattle.std.proofs.Common.{◌≡◌, length}
use Rattle.tcl_glob.specs.Patterns.{letters, contains, set_text}
use Rattle.tcl_glob.proofs.set_contains.Given as goal
use denote.Shadow.{shadow}
use denote.Text.{Utf8}

abbrev pub invariant-set : goal.invariant-set
invariant-set l =
    shadow (Utf8 l.rest) × (contains (set_text (letters l.nocase l.rest)) l.letter ≡ contains (set_text (letters l.nocase l.body)) l.letter)

abbrev pub decreases-set : goal.decreases-set
decreases-set l = length l.rest
