use Rattle.tcl_interpreter.proofs.LastNames.{last_are}
use Rattle.tcl_interpreter.proofs.alias.last_names.Goals as goal

pub returns : goal.returns
returns c = last_are c.args.path.now c.args.count c.requires
