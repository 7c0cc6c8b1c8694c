use Rattle.tcl_language.proofs.Calls.{programs_call}
use Rattle.tcl_language.proofs.RowsComputed as worked
use Rattle.tcl_language_laws.proofs.rows.Goals as goal

pub returns : goal.returns
returns c = worked.rows programs_call
