use Rattle.std.proofs.Common.{◌≡◌, length}
use Rattle.std.specs.Str.{chars}
use Rattle.tcl_characters.specs.Texts.{trim_end}
use Rattle.tcl_characters.proofs.trimming.trim_right.Given as goal
use denote.Shadow.{shadow}
use denote.Text.{Utf8}

abbrev pub invariant-letters : goal.invariant-letters
invariant-letters l =
    shadow (Utf8 l.rest) × (trim_end (chars l.set) (chars l.text) ≡ trim_end (chars l.set) (chars l.rest))

abbrev pub decreases-letters : goal.decreases-letters
decreases-letters l = length l.rest
