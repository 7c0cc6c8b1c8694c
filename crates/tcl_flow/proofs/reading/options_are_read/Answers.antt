use Rattle.tcl_flow.proofs.Options.{some_reading}
use Rattle.tcl_flow.proofs.reading.options_are_read.Goals as goal

pub returns : goal.returns
returns c = some_reading
