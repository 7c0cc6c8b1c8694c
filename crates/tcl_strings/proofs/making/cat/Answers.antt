use Rattle.std.proofs.Common.{Err, ap}
use Rattle.tcl_words.proofs.WordLemmas.{limited_past}
use Rattle.tcl_strings.proofs.making.cat.Goals as goal

pub returns-in-Err : goal.returns-in-Err
returns-in-Err c = c.not_made.ensures _ (λ is. limited_past _ (c.in-Err.ensures.refused (ap Err is)))
