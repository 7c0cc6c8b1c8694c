use Rattle.tcl_arithmetic.proofs.Divisions.{one_division}
use Rattle.tcl_arithmetic.proofs.one_division.Goals as goal

pub returns : goal.returns
returns c = one_division
