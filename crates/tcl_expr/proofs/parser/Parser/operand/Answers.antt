use Rattle.std.proofs.Common.{refl}
use Rattle.tcl_expr.proofs.Parsteps.{holds_as, operand_holds}
use Rattle.tcl_expr.proofs.parser.Parser.operand.Goals as goal

pub returns : goal.returns
returns c = λ os h. holds_as _ _ _ _ _ _ _ _ c.in_ok-push.ensures.items refl refl (operand_holds os _ _ _ c.args.leaf h)
