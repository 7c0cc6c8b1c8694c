use Rattle.std.proofs.Common.{Err, Ok, inr, refl, rules, subst, sym}
use Rattle.tcl_serve.specs.Messages as asks
use Rattle.tcl_serve.specs.Messages.{place_of}
use Rattle.tcl_serve.proofs.SessionLemmas.{does_err, same}
use Rattle.tcl_serve.specs.Keeping.{SavesAt}
use Rattle.tcl_serve.proofs.session.Session.save.Goals as goal

pub returns-in_err-saved : goal.returns-in_err-saved
returns-in_err-saved c = does_err c.args.self.now c.args.self.now (asks.Save (place_of c.args.message.now)) _ c.in_err-saved.field-0.0 (search rules)
    (inr (inr (c.in-Some.served.now, sym c.in-Some.ensures, subst (λ p. SavesAt c.in-Some.served.now.tree p (Err c.in_err-saved.field-0.0)) c.as_slice.ensures.value c.in_err-saved.ensures)), same c.args.self.now)

pub returns : goal.returns
returns c = record {
  served = c.in-Some.served.now;
  stood = sym c.in-Some.ensures;
  saved = c.in_ok-saved.saved;
  is = subst (λ p. SavesAt c.in-Some.served.now.tree p (Ok c.in_ok-saved.saved)) c.as_slice.ensures.value c.in_ok-saved.ensures;
  adds = c.in_ok-add.ensures.adds;
  rest = record { trees = refl; records = refl };
}
