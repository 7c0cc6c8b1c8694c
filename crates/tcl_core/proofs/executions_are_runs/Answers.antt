use Rattle.tcl_core.specs.Meaning.{by_test}
use Rattle.tcl_core.proofs.Following.{makes}
use Rattle.tcl_core.proofs.executions_are_runs.Goals as goal

pub returns : goal.returns
returns g c goes prog T V o z p x r f t = makes (by_test goes) prog f t
