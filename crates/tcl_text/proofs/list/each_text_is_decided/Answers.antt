use Rattle.tcl_text.proofs.Spellings.{decided}
use Rattle.tcl_text.proofs.list.each_text_is_decided.Goals as goal

pub returns : goal.returns
returns c = decided
