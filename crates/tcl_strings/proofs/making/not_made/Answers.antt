use Rattle.std.proofs.Common.{sym, subst}
use Rattle.tcl_words.specs.Outcomes.{Refuses}
use Rattle.tcl_strings.proofs.making.not_made.Goals as goal

pub returns-in-Memory : goal.returns-in-Memory
returns-in-Memory c = λ outcome f. tt

pub returns-in-TooLong : goal.returns-in-TooLong
returns-in-TooLong c = λ outcome f. subst (Refuses c.too_long.result) (sym (f c.in-TooLong.is)) c.too_long.ensures
