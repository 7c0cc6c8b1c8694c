use Rattle.tcl_interp.proofs.Programs.{interps, childs}
use Rattle.tcl_interp.proofs.dispatch.one_program.Goals as goal

pub returns-clause-interp : goal.returns-clause-interp
returns-clause-interp c = interps

pub returns-clause-child : goal.returns-clause-child
returns-clause-child c = childs
