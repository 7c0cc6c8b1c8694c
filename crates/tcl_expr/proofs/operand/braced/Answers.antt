use Rattle.std.proofs.Common.{arith, ap, length}
use Rattle.tcl_expr.proofs.Words.{inside_is_shorter}
use Rattle.tcl_expr.proofs.operand.braced.Goals as goal

pub from_short_text-value-requires : goal.from_short_text-value-requires
from_short_text-value-requires c = omega (arith, inside_is_shorter _ _ _ c.in-Some.ensures, ap length c.in_ok-new-in-Some.ensures, c.requires)
