use Rattle.std.proofs.Common.{◌≡◌, ◌≤◌, length, drop}
use Rattle.std.specs.Prelude.{codes}
use Rattle.std.specs.String.{string_bytes}
use Rattle.tcl_lists.specs.Joining.{joined, onto, filled}
use Rattle.tcl_lists.proofs.joining.concat_all.Given as goal

abbrev pub invariant-words : goal.invariant-words
invariant-words l =
    (onto (string_bytes l.made) (filled (drop l.word-index l.words)) ≡ joined (codes " ") (filled l.words))
    × (length (string_bytes l.made) ≤ 16777216)
