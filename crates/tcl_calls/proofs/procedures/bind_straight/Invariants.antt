use Rattle.std.proofs.Common.{◌≡◌, drop}
use Rattle.tcl_language.specs.Control.{bound, fit_all}
use Rattle.tcl_calls.specs.Procedures.{straight}
use Rattle.tcl_calls.proofs.procedures.bind_straight.Given as goal

abbrev pub invariant-parameters : goal.invariant-parameters
invariant-parameters l = record {
  chain : bound (straight (drop l.index l.parameters) (drop l.index l.args)) l.frames ≡ bound (straight l.fn.parameters l.fn.args) l.fn.frames;
  fit : fit_all (straight (drop l.index l.parameters) (drop l.index l.args)) ≡ fit_all (straight l.fn.parameters l.fn.args);
}
