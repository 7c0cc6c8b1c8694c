use Rattle.std.proofs.Common.{drop}
use Rattle.tcl_language.specs.Interpreters as interpreters
use Rattle.tcl_run.specs.Runs.{IsHere, KeepsAndLoses}
use Rattle.tcl_calls.specs.Asking.{Leads}
use Rattle.tcl_interp.proofs.deleting.delete.Given as goal

abbrev pub invariant-paths : goal.invariant-paths
invariant-paths g l = record {
  leads : Leads g.O.Outside.goes l.fn.tree l.fn.outside l.fn.place (λ style. interpreters.delete l.fn.args) l.tree l.outside (λ style. interpreters.delete (drop l.path-index l.fn.args));
  keeps : KeepsAndLoses g.O.Outside.entries_left g.O.Outside.loses l.fn.tree l.tree l.fn.outside l.outside;
  here : IsHere l.fn.tree l.tree l.fn.place;
}
