use Rattle.tcl_run_laws.proofs.BudgetWholes.{steps}
use Rattle.tcl_run_laws.proofs.budgets.steps_are_bounded.Goals as goal

pub returns : goal.returns
returns g c prog T V p s n B e outs w = steps prog T V p s n B e outs w
