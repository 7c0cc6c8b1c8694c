use Rattle.tcl_value.proofs.Laws.{list_of-write}
use Rattle.tcl_value.proofs.value_laws.written_list_is_read.Goals as goal

pub returns : goal.returns
returns c = list_of-write
