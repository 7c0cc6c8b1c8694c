use Rattle.tcl_text.proofs.Spellings.{gives_list, gives_fault}
use Rattle.tcl_text.proofs.list.list_of_decides.Goals as goal

pub returns : goal.returns
returns c = record { list = gives_list; fault = gives_fault }
