use Rattle.std.proofs.Common.{inl, sym, subst}
use Rattle.tcl_serve.specs.Evaluating.{Says}
use Rattle.tcl_serve.proofs.evaluating.run.Goals as goal

pub returns-in-Ok : goal.returns-in-Ok
returns-in-Ok g c = inl (record {
  begun = c.in-Ok.both;
  before = c.outside_of.new.served;
  begins = c.in-Ok.ensures;
  left = c.open_run-run.new.outside;
  ran = c.open_run-run.new.tree;
  run = c.open_run-run.result;
  refused = c.open_run-run.ensures.refused;
  unchanged = c.open_run-run.ensures.unchanged;
  memory = c.open_run-run.ensures.begun;
  broken = c.open_run-run.ensures.broken;
  marks = c.open_run-run.ensures.marks;
  runs = c.open_run-run.ensures.runs;
  tree = c.client_of-client.ensures.tree;
  comes = record { over = c.client_of-client.ensures.over; host = c.client_of-client.ensures.host };
  says = subst (λ b. Says b c.open_run-run.result c.said-answer.result) c.is_cut.ensures c.said-answer.ensures;
})
