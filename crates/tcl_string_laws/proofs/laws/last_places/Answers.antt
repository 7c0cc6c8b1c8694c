use Rattle.tcl_string_laws.proofs.Last.{last_places}
use Rattle.tcl_string_laws.proofs.laws.last_places.Goals as goal

pub returns : goal.returns
returns c = last_places
