use Rattle.tcl_run_laws.proofs.BudgetWholes.{depths, spared_depths}
use Rattle.tcl_run_laws.proofs.budgets.depths_hold.Goals as goal

pub returns : goal.returns
returns g c prog T V p s n B e outs w fine = (spared_depths prog T V p s n B e outs w fine, depths prog T V p s n B e outs w fine)
