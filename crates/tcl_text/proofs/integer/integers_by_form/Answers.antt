use Rattle.tcl_text.proofs.Forming.{integers_by_form}
use Rattle.tcl_text.proofs.integer.integers_by_form.Goals as goal

pub returns : goal.returns
returns c = integers_by_form
