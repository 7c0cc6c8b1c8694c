use Rattle.tcl_core.specs.Meaning.{by_test}
use Rattle.tcl_partial_runs.proofs.Begins.{begins}
use Rattle.tcl_partial_runs.proofs.beginnings_begin.Goals as goal

pub returns : goal.returns
returns g c goes prog T o z p x f b = begins (by_test goes) prog f b
