use Rattle.std.proofs.Common.{ap, inr, refl, rules, sym}
use Rattle.tcl_serve.specs.Messages as asks
use Rattle.tcl_serve.specs.declared.answers.Answer.TheVariants as answer
use Rattle.tcl_serve.proofs.SessionLemmas.{does_err, same}
use Rattle.tcl_serve.proofs.session.Session.replay.Goals as goal

pub returns-in_err-replay : goal.returns-in_err-replay
returns-in_err-replay c = does_err c.args.self.now c.args.self.now (asks.Replay c.args.message.saved c.args.message.played c.args.message.limit) _ c.in_err-replay.field-0.0 (search rules)
    (inr (inr (inr (c.in-Some.saved.now, c.in-Some-get.kept.now, sym c.in-Some.ensures, sym c.in-Some-get.ensures, c.in_err-replay.ensures))), same c.args.self.now)

pub returns : goal.returns
returns c = record {
  saved = c.in-Some.saved.now;
  kept = c.in-Some-get.kept.now;
  stood = sym c.in-Some.ensures;
  recorded = sym c.in-Some-get.ensures;
  left = c.in_ok-replay.replay;
  plays = c.in_ok-replay.ensures;
  number = c.in_ok-number.number;
  adds = c.in_ok-number.ensures.adds;
  says = ap answer.Replayed c.under.ensures;
  rest = record { trees = refl; records = refl };
}
