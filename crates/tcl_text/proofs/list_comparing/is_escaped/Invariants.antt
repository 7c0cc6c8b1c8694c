use Rattle.std.proofs.Common.{◌≡◌, drop, flat_map}
use Rattle.std.specs.Prelude.{◌↔◌}
use Rattle.tcl_text.specs.Writing.{escaped_byte}
use Rattle.tcl_text.proofs.list_comparing.is_escaped.Given as goal

abbrev pub invariant-bytes : goal.invariant-bytes
invariant-bytes l = (l.text ≡ flat_map escaped_byte l.element) ↔ (l.rest ≡ flat_map escaped_byte (drop l.byte-index l.element))
