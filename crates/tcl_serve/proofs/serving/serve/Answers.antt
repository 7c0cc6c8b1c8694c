use Rattle.std.proofs.Common.{inl, inr, refl, rules}
use Rattle.tcl_serve.specs.Serving.Lines.{none, one}
use Rattle.tcl_serve.proofs.serving.serve.Goals as goal

pub lines-init : goal.lines-init
lines-init g c = none

pub lines-preserved : goal.lines-preserved
lines-preserved g c = one _ _ _ _ c.lines.invariant c.serve_line-client.ensures

pub returns-in-Some : goal.returns-in-Some
returns-in-Some g c = record {
  client = c.new-client.result;
  begun = c.new-client.ensures.lines;
  quiet = c.new-client.ensures.quiet;
  session = c.new-session.result;
  empty = c.new-session.ensures;
  many = c.lines.line;
  last = c.lines.client;
  left = c.lines.session;
  lines = c.lines.invariant;
  over = inl (search rules);
}

pub returns : goal.returns
returns g c = record {
  client = c.new-client.result;
  begun = c.new-client.ensures.lines;
  quiet = c.new-client.ensures.quiet;
  session = c.new-session.result;
  empty = c.new-session.ensures;
  many = c.lines.line;
  last = c.lines.client;
  left = c.lines.session;
  lines = c.lines.invariant;
  over = inr (refl, search rules);
}
