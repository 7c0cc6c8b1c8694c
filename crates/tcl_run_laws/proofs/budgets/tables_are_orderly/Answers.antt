use Rattle.tcl_run_laws.proofs.Tables.{orderly}
use Rattle.tcl_run_laws.proofs.budgets.tables_are_orderly.Goals as goal

pub returns : goal.returns
returns c t = orderly t
