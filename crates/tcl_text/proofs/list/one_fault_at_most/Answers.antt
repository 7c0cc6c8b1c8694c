use Rattle.tcl_text.proofs.Spellings.{one_fault}
use Rattle.tcl_text.proofs.list.one_fault_at_most.Goals as goal

pub returns : goal.returns
returns c = one_fault
