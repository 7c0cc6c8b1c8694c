use Rattle.tcl_serve.specs.Clients.{Waits}
use Rattle.tcl_serve.proofs.client.Client.serve.Given as goal

abbrev pub invariant-lines : goal.invariant-lines
invariant-lines g l = Waits l.initial.self l.self
