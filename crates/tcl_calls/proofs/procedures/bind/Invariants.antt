use Rattle.std.proofs.Common.{◌≡◌, true, length}
use Rattle.tcl_language.specs.Control.{bindings, fit_all}
use Rattle.tcl_calls.specs.Procedures.{pairs_of, joined}
use Rattle.tcl_calls.proofs.procedures.bind.Given as goal

abbrev pub invariant-parameters : goal.invariant-parameters
invariant-parameters l = record {
  same : joined (pairs_of l.made.items) (bindings l.rest l.left) ≡ bindings l.fn.parameters l.fn.args;
  fit : fit_all (pairs_of l.made.items) ≡ true;
}

abbrev pub decreases-parameters : goal.decreases-parameters
decreases-parameters l = length l.rest
