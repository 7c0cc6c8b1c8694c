use Rattle.std.proofs.Common.{sym, subst, ◌∙◌}
use Rattle.tcl_run.specs.Entering.{whole_entry}
use Rattle.tcl_run.specs.Outsides.{ComesNext}
use Rattle.tcl_tree.specs.TreeOf.{tree_of}
use Rattle.tcl_embed.specs.OpenMoves.{by_budget}
use Rattle.tcl_embed.proofs.Moving.{comes_next}
use Rattle.tcl_run.proofs.Losing.{lost_where}
use Rattle.tcl_embed.proofs.moves.BudgetedOutside.next.Goals as goal

pub returns-clause-lost : goal.returns-clause-lost
returns-clause-lost g c = lost_where g.O.Outside.loses c.next-turn.result c.args.self.now.outside c.next-turn.new.self c.next-turn.ensures.lost

pub returns-clause-comes : goal.returns-clause-comes
returns-clause-comes g c = λ p d held top.
    subst (λ h. ComesNext (λ T o s ev z. by_budget g.O.Outside.goes T o s ev z) g.O.Outside.hands_in (tree_of c.args.tree.now) c.args.self.now p d c.args.up (whole_entry c.args.entry.now) (record { outside = c.next-turn.new.self; left = c.args.self.now.left; halt = h }) c.next-turn.result) (sym c.halt_at-self.ensures)
    (comes_next g.O.Outside.goes g.O.Outside.hands_in (tree_of c.args.tree.now) c.args.self.now.outside c.args.self.now.left c.args.self.now.halt p d c.args.up (whole_entry c.args.entry.now) c.next-turn.new.self c.next-turn.result (sym c.is_some.ensures ∙ c.if-is_some.false) top (c.next-turn.ensures.comes p d held top))
