use Rattle.std.proofs.Common.{◌≡◌, drop}
use Rattle.tcl_language.specs.Control.{bound}
use Rattle.tcl_calls.specs.Procedures.{pairs_of}
use Rattle.tcl_calls.proofs.procedures.bind_all.Given as goal

abbrev pub invariant-bindings : goal.invariant-bindings
invariant-bindings l = bound (pairs_of (drop l.binding-index l.bindings)) l.frames ≡ bound (pairs_of l.fn.bindings) l.fn.frames
