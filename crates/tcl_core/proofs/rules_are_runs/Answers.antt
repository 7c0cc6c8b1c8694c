use Rattle.tcl_core.proofs.RuleLaws.{derived_runs, runs_derived}
use Rattle.tcl_core.proofs.rules_are_runs.Goals as goal

pub returns : goal.returns
returns g c prog w p x v e = (derived_runs prog, runs_derived prog w p x v e)
