use Rattle.std.proofs.Common.{◌≡◌, vec_len}
use Rattle.tcl_lists.specs.Steps.{above_all}
use Rattle.tcl_lists.proofs.step.with_innermost.Given as goal

abbrev pub decreases-steps : goal.decreases-steps
decreases-steps l = vec_len l.steps

abbrev pub invariant-steps : goal.invariant-steps
invariant-steps l = above_all l.steps.items l.value ≡ above_all l.fn.steps.items l.fn.value
