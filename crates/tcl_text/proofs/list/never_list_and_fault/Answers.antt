use Rattle.tcl_text.proofs.Spellings.{never_both}
use Rattle.tcl_text.proofs.list.never_list_and_fault.Goals as goal

pub returns : goal.returns
returns c = never_both
