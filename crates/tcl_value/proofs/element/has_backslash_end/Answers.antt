use Rattle.std.proofs.Common.{sym, arith}
use Rattle.tcl_value.proofs.Laws.{last_byte, byte_default}
use Rattle.tcl_value.proofs.element.has_backslash_end.Goals as goal

pub returns-in-len1-up : goal.returns-in-len1-up
returns-in-len1-up c = sym (last_byte c.args.text.now _ (omega arith) (byte_default c.args.text.now 0 (omega arith)))
