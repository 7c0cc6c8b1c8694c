use Rattle.std.proofs.Common.{◌≡◌, ◌++◌, length}
use Rattle.tcl_language.specs.Arrays.{in_pairs}
use Rattle.tcl_commands.proofs.arrays.in_pairs.Given as goal

abbrev pub invariant-pairs : goal.invariant-pairs
invariant-pairs l = l.pairs.items ++ in_pairs l.left ≡ in_pairs l.words

abbrev pub decreases-pairs : goal.decreases-pairs
decreases-pairs l = length l.left
