use Rattle.std.proofs.Common.{refl, sym}
use Rattle.tcl_serve.specs.Messages.{ask_of}
use Rattle.tcl_serve.proofs.KeptLemmas.{kept, puts_through}
use Rattle.tcl_serve.proofs.SessionLemmas.{asked_does, kept_same}
use Rattle.std.proofs.Common.{inl}
use Rattle.tcl_serve.proofs.session.Session.ask.Goals as goal

pub returns-in-Some : goal.returns-in-Some
returns-in-Some c = asked_does _ _ c.args.number (ask_of c.args.ask.now) c.act.result (record {
  served = c.in-Some.served.now;
  stood = sym c.in-Some.ensures.value;
  after = c.act.new.self;
  acts = c.act.ensures;
  puts = puts_through c.args.self.now.trees _ c.args.number c.in-Some.served.now c.act.new.self refl (sym c.in-Some.ensures.value) (c.get_mut.follows.holds c.act.new.self);
  rest = record { saved = refl; records = refl };
})

pub returns-in-None : goal.returns-in-None
returns-in-None c = inl ((refl, sym c.in-None.ensures.value), record { trees = kept c.args.self.now.trees _ refl c.get_mut.follows.holds-at-none; saved = kept_same _; records = kept_same _ })
