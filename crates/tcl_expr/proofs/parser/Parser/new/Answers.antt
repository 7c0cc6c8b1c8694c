use Rattle.std.proofs.Common.{refl}
use Rattle.tcl_expr.proofs.Parsteps.{holds_as, nothing_read}
use Rattle.tcl_expr.proofs.parser.Parser.new.Goals as goal

pub returns : goal.returns
returns c = holds_as _ _ _ _ _ _ _ _ c.new.ensures.items c.new-2.ensures.items refl nothing_read
