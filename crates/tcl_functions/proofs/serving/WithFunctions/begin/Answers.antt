use Rattle.std.proofs.Common.{refl}
use Rattle.tcl_functions.proofs.serving.WithFunctions.begin.Goals as goal

pub returns-clause-begins : goal.returns-clause-begins
returns-clause-begins g c = λ p at. record {
  call = record { caller = c.in_ok-path.path; words = c.in_ok-words.words; replies = c.new.result };
  caller = c.in_ok-path.ensures.named p at;
  words = c.in_ok-words.ensures;
  replies = c.new.ensures.items;
  opened = c.in_ok-push.ensures.items;
  exits = refl;
  functions = refl;
  keeps = record { host = refl; entries = refl };
}
