use Rattle.tcl_language.proofs.Calls.{programs_call}
use Rattle.tcl_language.proofs.programs_call.Goals as goal

pub returns : goal.returns
returns c = programs_call
