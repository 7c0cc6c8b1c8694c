use Rattle.tcl_expr.proofs.Decisions.{decided}
use Rattle.tcl_expr.proofs.laws.each_text_is_decided.Goals as goal

pub returns : goal.returns
returns c = decided
