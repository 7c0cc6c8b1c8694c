use Rattle.std.proofs.Common.{inl, inr, refl, sym}
use Rattle.tcl_serve.proofs.KeptLemmas.{kept, puts_through}
use Rattle.tcl_serve.proofs.SessionLemmas.{kept_same}
use Rattle.tcl_serve.proofs.session.Session.watch.Goals as goal

pub returns-in-Some : goal.returns-in-Some
returns-in-Some g c = inl (record {
  served = c.in-Some.served.now;
  stood = sym c.in-Some.ensures.value;
  after = c.watch.new.served;
  watches = c.watch.ensures;
  puts = puts_through c.args.self.now.trees _ c.args.message.now.evaluate.interpreter.tree c.in-Some.served.now c.watch.new.served refl (sym c.in-Some.ensures.value) (c.get_mut.follows.holds c.watch.new.served);
  saved = refl;
})

pub returns-in-None : goal.returns-in-None
returns-in-None g c = inr (record {
  refused = refl;
  missing = sym c.in-None.ensures.value;
  session = record { trees = kept c.args.self.now.trees _ refl c.get_mut.follows.holds-at-none; saved = kept_same _; records = kept_same _ };
  client = refl;
})
