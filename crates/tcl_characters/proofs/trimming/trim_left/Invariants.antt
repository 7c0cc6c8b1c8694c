use Rattle.std.proofs.Common.{◌≡◌, length}
use Rattle.std.specs.Str.{chars}
use Rattle.tcl_characters.specs.Texts.{trim_start}
use Rattle.tcl_characters.proofs.trimming.trim_left.Given as goal
use denote.Shadow.{shadow}
use denote.Text.{Utf8}

abbrev pub invariant-letters : goal.invariant-letters
invariant-letters l =
    shadow (Utf8 l.rest) × (trim_start (chars l.set) (chars l.text) ≡ trim_start (chars l.set) (chars l.rest))

abbrev pub decreases-letters : goal.decreases-letters
decreases-letters l = length l.rest
