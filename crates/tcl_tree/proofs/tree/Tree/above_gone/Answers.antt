use Rattle.std.proofs.Common.{sym, ◌∙◌, ap}
use Rattle.std.specs.Prelude.{is_some}
use Rattle.tcl_tree.proofs.HeldLemmas.{held-none, not_gone}
use Rattle.tcl_tree.proofs.GoneLemmas.{gone_parent, node_above, node_gone}
use Rattle.tcl_tree.proofs.tree.Tree.above_gone.Goals as goal

pub unreachable-requires : goal.unreachable-requires
unreachable-requires c = not_gone _ c.requires (ap (λ x. is_some x) (held-none _ _ (sym c.in_default.ensures)))

pub returns-then-not-node-clause-stands : goal.returns-then-not-node-clause-stands
returns-then-not-node-clause-stands c = node_gone _ _ _ (sym c.in-Some.ensures) ∙ c.if-not-node.true

pub unreachable-requires-in_default-parent : goal.unreachable-requires-in_default-parent
unreachable-requires-in_default-parent c = gone_parent _ _ _ _ c.args.self.now.sound c.args.self.now.ordered (sym c.in-Some.ensures) c.if-not-node.false c.in_default-parent.is

pub returns-clause-gone : goal.returns-clause-gone
returns-clause-gone c = (node_gone _ _ _ (sym c.in-Some.ensures) ∙ c.if-not-node.false, c.in-Some.node.now.name, node_above _ _ _ _ (sym c.in-Some.ensures) c.in-Some-parent.is)
