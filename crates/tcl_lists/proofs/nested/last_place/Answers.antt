use Rattle.tcl_text.proofs.Fitting.{last_place_of}
use Rattle.tcl_lists.proofs.nested.last_place.Goals as goal

pub returns : goal.returns
returns c = last_place_of c.args.count c.requires
