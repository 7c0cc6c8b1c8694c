use Rattle.tcl_arithmetic.proofs.DigitLaws.{or_digits}
use Rattle.tcl_arithmetic.proofs.bitwise_or.Goals as goal

pub returns : goal.returns
returns c = λ i. or_digits c.args.a c.args.b i c.ranges.a c.ranges.b
