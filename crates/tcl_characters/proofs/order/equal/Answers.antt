use Rattle.std.proofs.Common.{◌∙◌, ap}
use Rattle.std.specs.Ordering.{is_eq}
use Rattle.tcl_characters.proofs.Orders.{equal_letters, same_texts}
use Rattle.tcl_characters.proofs.order.equal.Goals as goal

pub returns-then-nocase : goal.returns-then-nocase
returns-then-nocase c = equal_letters c.args.a.now c.args.b.now c.args.nocase c.is_eq.result c.if-nocase.true (c.is_eq.ensures ∙ ap is_eq c.compare.ensures)

pub returns-else-nocase : goal.returns-else-nocase
returns-else-nocase c = same_texts c.args.a.now c.args.b.now c.args.nocase c.eq.result c.utf8.a c.utf8.b c.if-nocase.false c.eq.ensures
