use Rattle.tcl_run.specs.Language.{language}
use Rattle.tcl_language.specs.Safety.{is_modest}
use Rattle.tcl_run_laws.proofs.BudgetWholes.{counts, depths, limits, own_limit, root_count, spared_depths, steps, stops, within}
use Rattle.tcl_run_laws.proofs.budgets.scripts_keep_budgets.Goals as goal

pub returns : goal.returns
returns d style T V p s n B e outs w fine = record {
  steps = steps (language style) T V p s n B e outs w;
  root = root_count (language style) T V p s n B e outs w fine;
  root_limit = own_limit (language style) T V p s n B e outs w fine;
  counts = counts (language style) T V p s n B e outs w;
  within = within (language style) T V p s n B e outs w;
  stops = stops (language style) T V p s n B e outs w;
  limits = limits (language style) T V p s n B e outs w fine is_modest (d.safe_scripts_set_no_limit.ensures style);
  spared_depths = spared_depths (language style) T V p s n B e outs w fine;
  depths = depths (language style) T V p s n B e outs w fine;
}
