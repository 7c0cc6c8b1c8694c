use Rattle.tcl_arithmetic.proofs.DigitLaws.{xor_digits}
use Rattle.tcl_arithmetic.proofs.bitwise_xor.Goals as goal

pub returns : goal.returns
returns c = λ i. xor_digits c.args.a c.args.b i c.ranges.a c.ranges.b
