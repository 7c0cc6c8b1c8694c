use Rattle.std.proofs.Common.{inl}
use Rattle.tcl_sessions.proofs.session.Session.evaluate.Goals as goal

pub returns : goal.returns
returns c = inl (record {
  rests = c.in_ok-at_rest.ensures;
  begun = c.begin.new.self;
  host = c.begin.ensures.host;
  answers = c.begin.ensures.answers;
  runs = c.run.ensures;
})
