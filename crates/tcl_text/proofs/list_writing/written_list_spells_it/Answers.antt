use Rattle.tcl_text.proofs.Writings.{written_spells}
use Rattle.tcl_text.proofs.list_writing.written_list_spells_it.Goals as goal

pub returns : goal.returns
returns c = written_spells
