use Rattle.tcl_string_laws.proofs.First.{first_places}
use Rattle.tcl_string_laws.proofs.laws.first_places.Goals as goal

pub returns : goal.returns
returns c = first_places
