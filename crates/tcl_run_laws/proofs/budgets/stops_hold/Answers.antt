use Rattle.tcl_run_laws.proofs.BudgetWholes.{stops}
use Rattle.tcl_run_laws.proofs.budgets.stops_hold.Goals as goal

pub returns : goal.returns
returns g j prog T V p s n B e outs w c = stops prog T V p s n B e outs w c
