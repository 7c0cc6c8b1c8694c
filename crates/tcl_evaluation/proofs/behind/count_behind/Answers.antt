use Rattle.tcl_run.specs.Runs.{ways}
use Rattle.tcl_evaluation.proofs.FirstOperands.{behind_ends, behind_goes}
use Rattle.tcl_evaluation.proofs.Steps.{both}
use Rattle.tcl_evaluation.proofs.Summing.{breaks_more, ok_more}
use Rattle.tcl_evaluation.proofs.behind.count_behind.Goals as goal

pub returns-clause-computed : goal.returns-clause-computed
returns-clause-computed g c = ok_more c.count_sum.result (both _ _ c.count_sum.result c.count_sum.ensures.sums c.count_sum.ensures.own)
    (λ h. behind_goes (ways g.O.Outside.goes g.O.Outside.loses) c.args.tree.now c.count_sum.new.tree c.args.outside.now c.count_sum.new.outside c.args.place h.0 h.1)

pub returns-clause-breaks : goal.returns-clause-breaks
returns-clause-breaks g c = breaks_more c.count_sum.result _ _
    (λ e h. (h.0, behind_ends (ways g.O.Outside.goes g.O.Outside.loses) c.args.tree.now c.count_sum.new.tree c.args.outside.now c.count_sum.new.outside c.args.place e h.0 h.1)) c.count_sum.ensures.breaks
