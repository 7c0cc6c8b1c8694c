use denote.Text.{Utf8}
use denote.Shadow.{shadow}
use Rattle.std.proofs.Common.{◌≡◌, ◌≤◌, true, length}
use Rattle.tcl_parser.specs.Reading.{after_gap}
use Rattle.tcl_parser.proofs.scan.skip_comment.Given as goal

abbrev pub invariant-comment : goal.invariant-comment
invariant-comment l = shadow (Utf8 l.rest) × (after_gap true l.rest ≡ after_gap true l.text) × (length l.rest ≤ length l.text)

abbrev pub decreases-comment : goal.decreases-comment
decreases-comment l = length l.rest
