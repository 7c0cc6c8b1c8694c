use Rattle.std.proofs.Common.{◌≡◌, ◌≤◌, ◌+◌, length}
use Rattle.std.specs.Str.{chars}
use Rattle.std.specs.String.{string_bytes}
use Rattle.tcl_lists.specs.Splitting.{parts, part_texts}
use Rattle.tcl_lists.proofs.Between.{behind}
use Rattle.tcl_lists.proofs.splitting.split_between.Given as goal
use denote.Shadow.{shadow}
use denote.Text.{Utf8}

abbrev pub invariant-letters : goal.invariant-letters
invariant-letters l =
    shadow (Utf8 l.rest)
    × (behind l.made (string_bytes l.part) (parts (chars l.set) (chars l.rest)) ≡ part_texts (parts (chars l.set) (chars l.text)))
    × (length (string_bytes l.part) + length l.rest ≤ length l.text)

abbrev pub decreases-letters : goal.decreases-letters
decreases-letters l = length (chars l.rest)
