use Rattle.tcl_run_laws.proofs.BudgetWholes.{counts}
use Rattle.tcl_run_laws.proofs.budgets.steps_are_counted.Goals as goal

pub returns : goal.returns
returns g j prog T V p s n B e outs w c m there spared = counts prog T V p s n B e outs w c m there spared
