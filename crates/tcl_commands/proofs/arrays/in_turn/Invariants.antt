use Rattle.std.proofs.Common.{◌≡◌, ◌++◌, drop}
use Rattle.tcl_language.specs.Arrays.{in_turn}
use Rattle.tcl_commands.proofs.arrays.in_turn.Given as goal

abbrev pub invariant-elements : goal.invariant-elements
invariant-elements l = in_turn l.elements ≡ l.texts.items ++ in_turn (drop l.key-index l.elements)
