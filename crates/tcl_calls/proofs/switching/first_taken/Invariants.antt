use Rattle.std.proofs.Common.{◌≡◌, length}
use Rattle.tcl_language.specs.Switching.{chosen, is_fit}
use Rattle.tcl_calls.specs.Switching.{manner_of}
use Rattle.tcl_calls.proofs.switching.first_taken.Given as goal

abbrev pub invariant-pairs : goal.invariant-pairs
invariant-pairs l = chosen (is_fit (manner_of l.manner) l.string) l.fn.pairs ≡ chosen (is_fit (manner_of l.manner) l.string) l.left

abbrev pub decreases-pairs : goal.decreases-pairs
decreases-pairs l = length l.left
