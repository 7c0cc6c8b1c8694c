use Rattle.std.proofs.Common.{◌≡◌, length, string_bytes}
use denote.Text.{Utf8}
use denote.Shadow.{shadow}
use Rattle.tcl_text.specs.Lists.{units, with_meaning}
use Rattle.tcl_text.specs.Reading.{stop_test}
use Rattle.tcl_text.proofs.Steps.{AtSeam}
use Rattle.tcl_text.proofs.list.read_units.Given as goal

abbrev pub invariant-sequences : goal.invariant-sequences
invariant-sequences l =
    shadow (Utf8 l.rest) ×
    AtSeam l.stop l.rest ×
    (with_meaning (string_bytes l.meaning) (units (stop_test l.stop) l.rest 0) ≡ units (stop_test l.stop) l.text 0)

abbrev pub decreases-sequences : goal.decreases-sequences
decreases-sequences l = length l.rest
