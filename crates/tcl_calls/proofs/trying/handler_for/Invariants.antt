use Rattle.std.proofs.Common.{◌≡◌, length}
use Rattle.tcl_flow.specs.View.{completion_of}
use Rattle.tcl_language.specs.Trying.{handled_by}
use Rattle.tcl_calls.specs.Trying.{handlers_of}
use Rattle.tcl_calls.proofs.trying.handler_for.Given as goal

abbrev pub invariant-handlers : goal.invariant-handlers
invariant-handlers l = handled_by (completion_of l.completion) (handlers_of l.fn.handlers) ≡ handled_by (completion_of l.completion) (handlers_of l.left)

abbrev pub decreases-handlers : goal.decreases-handlers
decreases-handlers l = length l.left
