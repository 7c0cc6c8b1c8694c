use Rattle.std.proofs.Common.{inl, refl, rules}
use Rattle.tcl_serve.specs.Messages.{asks_of}
use Rattle.tcl_serve.proofs.serving.serve_line.Goals as goal

pub returns-in-Some : goal.returns-in-Some
returns-in-Some g c = inl (record {
  id = c.in-Some.id;
  message = asks_of c.in-Some.message;
  heard = c.hear.new.self;
  understands = c.in-Some.ensures.listens;
  talk = c.in-Some.ensures.talk;
  done = c.answer-client.result.0;
  answer = c.answer-client.result.1;
  answers = c.answer-client.ensures;
  replies = c.reply.ensures.replies;
  same = c.reply.ensures.talk;
})
