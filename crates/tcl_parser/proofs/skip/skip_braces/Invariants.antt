use denote.Text.{Utf8}
use denote.Shadow.{shadow}
use Rattle.std.proofs.Common.{◌≡◌, ◌+◌, ◌≤◌, false, length}
use Rattle.tcl_parser.specs.Pieces.{rest_of}
use Rattle.tcl_parser.specs.Reading.{in_braces}
use Rattle.tcl_parser.proofs.skip.skip_braces.Given as goal

abbrev pub invariant-braces : goal.invariant-braces
invariant-braces l = shadow (Utf8 l.rest) × (rest_of (in_braces false l.depth l.rest) ≡ rest_of (in_braces false 0 l.text)) × (l.depth + length l.rest ≤ length l.text)

abbrev pub decreases-braces : goal.decreases-braces
decreases-braces l = length l.rest
