use Rattle.tcl_run_laws.proofs.BudgetWholes.{within}
use Rattle.tcl_run_laws.proofs.budgets.limits_hold.Goals as goal

pub returns : goal.returns
returns g j prog T V p s n B e outs w c m l b below there spared at_limit low lb mb = within prog T V p s n B e outs w c m l b below there spared at_limit low lb mb
