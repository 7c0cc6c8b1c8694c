use Rattle.tcl_value.proofs.Plain.{is_plain-from_first}
use Rattle.tcl_value.proofs.element.is_plain.Goals as goal

pub returns-then-first-ne35 : goal.returns-then-first-ne35
returns-then-first-ne35 c = is_plain-from_first c.args.text.now c.are_plain_bytes.result c.in-len1-up.len_at_least c.if-first-ne35.true c.are_plain_bytes.ensures
