use Rattle.std.proofs.Common.{◌≡◌, length}
use Rattle.std.specs.Str.{chars}
use Rattle.tcl_characters.specs.Mapping.{fitting}
use Rattle.tcl_characters.proofs.mapping.fitting.Given as goal

abbrev pub invariant-keys : goal.invariant-keys
invariant-keys l = fitting l.nocase l.mapping (chars l.text) ≡ fitting l.nocase l.left (chars l.text)

abbrev pub decreases-keys : goal.decreases-keys
decreases-keys l = length l.left
