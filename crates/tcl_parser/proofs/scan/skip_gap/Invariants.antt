use denote.Text.{Utf8}
use denote.Shadow.{shadow}
use Rattle.std.proofs.Common.{◌≡◌, false, length}
use Rattle.tcl_parser.specs.Reading.{after_gap}
use Rattle.tcl_parser.proofs.scan.skip_gap.Given as goal

abbrev pub invariant-gap : goal.invariant-gap
invariant-gap l = shadow (Utf8 l.rest) × (after_gap false l.rest ≡ after_gap false l.text)

abbrev pub decreases-gap : goal.decreases-gap
decreases-gap l = length l.rest
