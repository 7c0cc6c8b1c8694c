use Rattle.tcl_run.specs.Language.{language}
use Rattle.tcl_language.specs.Safety.{is_modest}
use Rattle.tcl_run_laws.proofs.BudgetWholes.{limits}
use Rattle.tcl_run_laws.proofs.budgets.scripts_set_no_limit.Goals as goal

pub returns : goal.returns
returns d style T V p s n B e outs w fine c q below safe spared free = limits (language style) T V p s n B e outs w fine is_modest (d.safe_scripts_set_no_limit.ensures style) c q below safe spared free
