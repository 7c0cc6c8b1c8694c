use denote.Text.{Utf8}
use denote.Shadow.{shadow}
use Rattle.std.proofs.Common.{◌≡◌, false, length}
use Rattle.tcl_parser.specs.Reading.{after_name}
use Rattle.tcl_parser.proofs.scan.skip_name.Given as goal

abbrev pub invariant-name : goal.invariant-name
invariant-name l = shadow (Utf8 l.rest) × (after_name l.colons l.rest ≡ after_name false l.text)

abbrev pub decreases-name : goal.decreases-name
decreases-name l = length l.rest
