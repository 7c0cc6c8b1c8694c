use Rattle.tcl_run_laws.proofs.BudgetWholes.{own_limit, root_count}
use Rattle.tcl_run_laws.proofs.budgets.roots_count.Goals as goal

pub returns : goal.returns
returns g c prog T V p s n B e outs w fine = (root_count prog T V p s n B e outs w fine, own_limit prog T V p s n B e outs w fine)
