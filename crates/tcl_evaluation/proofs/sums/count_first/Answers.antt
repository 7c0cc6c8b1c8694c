use Rattle.tcl_evaluation.proofs.Summing.{ok_more}
use Rattle.tcl_evaluation.proofs.sums.count_first.Goals as goal

pub returns-clause-sums : goal.returns-clause-sums
returns-clause-sums g c = ok_more c.count_sum.result c.count_sum.ensures.sums (λ counted told. counted)

pub returns-clause-own : goal.returns-clause-own
returns-clause-own g c = ok_more c.count_sum.result c.count_sum.ensures.own (λ kept told. kept)
