use Rattle.std.proofs.Common.{◌≡◌, drop}
use Rattle.tcl_language.specs.Trying.{first_script}
use Rattle.tcl_calls.specs.Trying.{handlers_of}
use Rattle.tcl_calls.proofs.trying.first_script.Given as goal

abbrev pub invariant-handlers : goal.invariant-handlers
invariant-handlers l = first_script (handlers_of l.handlers) ≡ first_script (handlers_of (drop l.handler-index l.handlers))
