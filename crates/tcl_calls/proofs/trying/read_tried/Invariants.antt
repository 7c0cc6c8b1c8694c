use Rattle.std.proofs.Common.{◌≡◌, length}
use Rattle.tcl_language.specs.Trying.{tried_of}
use Rattle.tcl_calls.specs.Trying.{handlers_of}
use Rattle.tcl_calls.proofs.Handling.{behind}
use Rattle.tcl_calls.proofs.trying.read_tried.Given as goal

abbrev pub invariant-handlers : goal.invariant-handlers
invariant-handlers l = tried_of l.style l.fn.words ≡ behind (handlers_of l.handlers.items) (tried_of l.style l.left)

abbrev pub decreases-handlers : goal.decreases-handlers
decreases-handlers l = length l.left
