use Rattle.std.proofs.Common.{◌≡◌, ◌*◌, drop}
use Rattle.tcl_language.specs.Switching.{chosen, is_fit}
use Rattle.tcl_calls.specs.Switching.{manner_of}
use Rattle.tcl_calls.proofs.switching.first_taken_in.Given as goal

abbrev pub invariant-pairs : goal.invariant-pairs
invariant-pairs l = chosen (is_fit (manner_of l.fn.manner) l.fn.string) l.fn.pairs ≡ chosen (is_fit (manner_of l.fn.manner) l.fn.string) (drop (2 * l.pair) l.fn.pairs)
