use Rattle.std.proofs.Common.{◌≡◌, ◌≤◌, [], length}
use denote.Text.{Utf8}
use denote.Shadow.{shadow}
use Rattle.std.specs.Str.{chars}
use Rattle.std.specs.String.{string_bytes}
use Rattle.tcl_format.specs.Filling.{items, filled}
use Rattle.tcl_format.proofs.command.filled.Given as goal

abbrev pub invariant-items : goal.invariant-items
invariant-items l =
    shadow (Utf8 l.rest)
    × (filled l.style [] (items (chars l.text) 0) l.values ≡ filled l.style (string_bytes l.made) (items (chars l.rest) 0) l.left)
    × (length (string_bytes l.made) ≤ 16777216)

abbrev pub decreases-items : goal.decreases-items
decreases-items l = length (chars l.rest)
