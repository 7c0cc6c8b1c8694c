use Rattle.std.proofs.Common.{◌≡◌, ◌≤◌, ◌++◌, length}
use Rattle.std.specs.Str.{chars}
use Rattle.std.specs.String.{string_bytes}
use Rattle.tcl_characters.specs.Mapping.{mapped}
use Rattle.tcl_characters.proofs.mapping.map.Given as goal
use denote.Shadow.{shadow}
use denote.Text.{Utf8}

abbrev pub invariant-fits : goal.invariant-fits
invariant-fits l =
    shadow (Utf8 l.rest)
    × (mapped l.nocase l.mapping (chars l.text) 0 ≡ string_bytes l.made ++ mapped l.nocase l.mapping (chars l.rest) 0)
    × (length (string_bytes l.made) ≤ 16777216)

abbrev pub decreases-fits : goal.decreases-fits
decreases-fits l = length (chars l.rest)
