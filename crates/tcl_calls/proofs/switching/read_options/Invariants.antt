use Rattle.std.proofs.Common.{◌≡◌, length}
use Rattle.tcl_language.specs.Switching.{choice, exactly}
use Rattle.tcl_calls.specs.Switching.{manner_of}
use Rattle.tcl_calls.proofs.switching.read_options.Given as goal

abbrev pub invariant-options : goal.invariant-options
invariant-options l = choice exactly l.fn.words ≡ choice (manner_of l.manner) l.left

abbrev pub decreases-options : goal.decreases-options
decreases-options l = length l.left
