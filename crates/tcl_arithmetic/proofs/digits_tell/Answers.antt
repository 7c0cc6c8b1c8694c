use Rattle.tcl_arithmetic.proofs.DigitLaws.{same_number}
use Rattle.tcl_arithmetic.proofs.digits_tell.Goals as goal

pub returns : goal.returns
returns c = same_number
