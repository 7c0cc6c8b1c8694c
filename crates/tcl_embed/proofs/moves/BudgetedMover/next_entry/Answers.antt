use Rattle.tcl_run.proofs.Losing.{lost_once}
use Rattle.tcl_embed.proofs.Moving.{err_more}
use Rattle.tcl_embed.proofs.moves.BudgetedMover.next_entry.Goals as goal

pub returns-clause-lost : goal.returns-clause-lost
returns-clause-lost g c = err_more c.next_entry.result _ _ (λ f. lost_once f) c.next_entry.ensures.lost
