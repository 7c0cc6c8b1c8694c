use Rattle.std.proofs.Common.{◌≡◌, [], ◌∷◌, ◌++◌}
use Rattle.std.specs.String.{string_bytes}
use Rattle.tcl_characters.specs.Texts.{copies}
use Rattle.tcl_format.proofs.pieces.add_copies.Given as goal

abbrev pub invariant-copies : goal.invariant-copies
invariant-copies l = string_bytes l.made ≡ string_bytes l.initial.made ++ copies l.counter (l.letter ∷ [])
