use Rattle.tcl_text.proofs.Positions.{indexes_by_form}
use Rattle.tcl_text.proofs.index.indexes_by_form.Goals as goal

pub returns : goal.returns
returns c = indexes_by_form
