use Rattle.tcl_frames.proofs.NameLemmas.{plain_none, plain_some}
use Rattle.tcl_frames.proofs.name.is_plain_name.Goals as goal

pub returns-then-is_none : goal.returns-then-is_none
returns-then-is_none c = plain_none c.args.name.now c.element_parts.result c.is_none.result c.with_colons.result c.element_parts.ensures c.is_none.ensures c.if-is_none.true c.with_colons.ensures

pub returns-else-is_none : goal.returns-else-is_none
returns-else-is_none c = plain_some c.args.name.now c.element_parts.result c.is_none.result c.element_parts.ensures c.is_none.ensures c.if-is_none.false
