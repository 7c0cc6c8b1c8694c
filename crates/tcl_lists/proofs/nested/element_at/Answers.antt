use Rattle.std.proofs.Common.{arith, ◌∙◌}
use Rattle.tcl_lists.proofs.Placed.{inside_found, element_behind}
use Rattle.tcl_lists.proofs.nested.element_at.Goals as goal

pub returns-then-place-len : goal.returns-then-place-len
returns-then-place-len c = inside_found c.get.result c.args.place c.args.list.now (omega (arith, c.len.ensures, c.if-place-len.true)) c.get.ensures

pub returns-else-place-len : goal.returns-else-place-len
returns-else-place-len c = c.empty.ensures ∙ element_behind c.args.place c.args.list.now (omega (arith, c.len.ensures, c.if-place-len.false))
