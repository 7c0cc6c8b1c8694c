use Rattle.std.proofs.Common.{◌≡◌, length}
use denote.Text.{Utf8}
use denote.Shadow.{shadow}
use Rattle.tcl_text.specs.Lists.{list_of}
use Rattle.tcl_text.proofs.Steps.{with_front, IsDark}
use Rattle.tcl_text.proofs.list.read_all.Given as goal

abbrev pub invariant-elements : goal.invariant-elements
invariant-elements l =
    shadow (Utf8 l.rest) × IsDark l.rest × (with_front l.list.items (list_of l.rest) ≡ list_of l.text)

abbrev pub decreases-elements : goal.decreases-elements
decreases-elements l = length l.rest
