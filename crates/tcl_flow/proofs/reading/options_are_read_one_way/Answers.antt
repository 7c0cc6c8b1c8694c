use Rattle.tcl_flow.proofs.Options.{one_reading}
use Rattle.tcl_flow.proofs.reading.options_are_read_one_way.Goals as goal

pub returns : goal.returns
returns c = one_reading
