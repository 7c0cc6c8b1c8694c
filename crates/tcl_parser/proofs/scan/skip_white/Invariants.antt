use denote.Text.{Utf8}
use denote.Shadow.{shadow}
use Rattle.std.proofs.Common.{◌≡◌, length}
use Rattle.tcl_parser.specs.Reading.{after_white}
use Rattle.tcl_parser.proofs.scan.skip_white.Given as goal

abbrev pub invariant-white : goal.invariant-white
invariant-white l = shadow (Utf8 l.rest) × (after_white l.rest ≡ after_white l.text)

abbrev pub decreases-white : goal.decreases-white
decreases-white l = length l.rest
