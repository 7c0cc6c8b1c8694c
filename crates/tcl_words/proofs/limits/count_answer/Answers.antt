use Rattle.tcl_words.proofs.WordLemmas.{count_text}
use Rattle.tcl_words.proofs.limits.count_answer.Goals as goal

pub returns : goal.returns
returns c = count_text c.args.count c.if-count-gt-MOST_BYTES.false
