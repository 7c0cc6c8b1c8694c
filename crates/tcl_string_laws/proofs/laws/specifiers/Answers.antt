use Rattle.tcl_string_laws.proofs.Specifiers.{specifiers}
use Rattle.tcl_string_laws.proofs.laws.specifiers.Goals as goal

pub returns : goal.returns
returns c = specifiers
