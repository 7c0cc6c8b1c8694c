use Rattle.tcl_serve.specs.Serving.{Lines}
use Rattle.tcl_serve.proofs.serving.serve.Given as goal

abbrev pub invariant-lines : goal.invariant-lines
invariant-lines g l = Lines l.initial.client l.initial.session l.line l.client l.session
