use Rattle.std.proofs.Common.{inl, subst}
use Rattle.tcl_serve.specs.Evaluating.{SaysRecord}
use Rattle.tcl_serve.proofs.evaluating.run_watched.Goals as goal

pub returns-in-Ok : goal.returns-in-Ok
returns-in-Ok g c = inl (record {
  begun = c.in-Ok.both;
  before = c.outside_of.new.served;
  begins = c.in-Ok.ensures;
  left = c.open_watched-both.result.0;
  ran = c.open_watched-both.new.tree;
  run = c.open_watched-both.result.1;
  refused = c.open_watched-both.ensures.refused;
  unchanged = c.open_watched-both.ensures.unchanged;
  marks = c.open_watched-both.ensures.marks;
  runs = c.open_watched-both.ensures.runs;
  recorded = c.open_watched-both.ensures.recorded;
  deleted = c.open_watched-both.ensures.deleted;
  reacts = c.open_watched-both.ensures.reacts;
  tree = c.client_of-client.ensures.tree;
  comes = record { over = c.client_of-client.ensures.over; host = c.client_of-client.ensures.host };
  says = subst (λ b. SaysRecord b c.open_watched-both.result.1 c.args.records.now c.recorded-answer.result c.recorded-answer.new.records) c.is_cut.ensures c.recorded-answer.ensures;
})
