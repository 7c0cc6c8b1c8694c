use Rattle.tcl_arithmetic.proofs.DigitLaws.{and_digits}
use Rattle.tcl_arithmetic.proofs.bitwise_and.Goals as goal

pub returns : goal.returns
returns c = λ i. and_digits c.args.a c.args.b i c.ranges.a c.ranges.b
