use Rattle.std.proofs.Common.{◌≡◌, length}
use denote.Text.{Utf8}
use denote.Shadow.{shadow}
use Rattle.std.specs.Str.{chars}
use Rattle.tcl_format.specs.Specifiers.{no_flags, read_flags}
use Rattle.tcl_format.proofs.specifier.read_flags.Given as goal

abbrev pub invariant-flags : goal.invariant-flags
invariant-flags l = shadow (Utf8 l.rest) × (read_flags no_flags (chars l.text) ≡ read_flags l.flags (chars l.rest))

abbrev pub decreases-flags : goal.decreases-flags
decreases-flags l = length (chars l.rest)
