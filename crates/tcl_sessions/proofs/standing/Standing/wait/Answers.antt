use Rattle.std.proofs.Common.{refl, ◌∙◌}
use Rattle.tcl_sessions.proofs.standing.Standing.wait.Goals as goal

pub returns : goal.returns
returns c = λ p at. record {
  call = record { caller = c.in_ok-path.path; words = c.in_ok-words.words };
  caller = c.in_ok-path.ensures.stood p at;
  words = c.in_ok-words.ensures;
  after = refl;
}
