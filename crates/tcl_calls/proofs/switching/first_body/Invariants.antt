use Rattle.std.proofs.Common.{◌≡◌, length}
use Rattle.tcl_language.specs.Switching.{first_body}
use Rattle.tcl_calls.proofs.switching.first_body.Given as goal

abbrev pub invariant-bodies : goal.invariant-bodies
invariant-bodies l = first_body l.fn.pairs ≡ first_body l.left

abbrev pub decreases-bodies : goal.decreases-bodies
decreases-bodies l = length l.left
