use Rattle.tcl_string_laws.proofs.Maps.{mapped_texts}
use Rattle.tcl_string_laws.proofs.laws.mapped_texts.Goals as goal

pub returns : goal.returns
returns c = mapped_texts
