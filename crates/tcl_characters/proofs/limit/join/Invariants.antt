use Rattle.std.proofs.Common.{◌≡◌, ◌++◌, ◌≤◌, length, drop}
use Rattle.std.specs.String.{string_bytes}
use Rattle.tcl_characters.specs.Texts.{joined}
use Rattle.tcl_characters.proofs.limit.join.Given as goal

abbrev pub invariant-texts : goal.invariant-texts
invariant-texts l =
    (joined l.texts ≡ string_bytes l.made ++ joined (drop l.text-index l.texts)) × (length (string_bytes l.made) ≤ 16777216)
