use Rattle.tcl_text.proofs.Spellings.{one_list}
use Rattle.tcl_text.proofs.list.one_list_at_most.Goals as goal

pub returns : goal.returns
returns c = one_list
