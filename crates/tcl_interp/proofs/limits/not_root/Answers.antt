use Rattle.std.proofs.Common.{◌∙◌, sym, ap}
use Rattle.tcl_core.specs.Trees.{Node}
use Rattle.tcl_language.specs.Interpreters as interpreters
use Rattle.tcl_run.proofs.Endings.{Interrupts-more}
use Rattle.tcl_tree.specs.Own.{Own}
use Rattle.tcl_calls.proofs.Looks.{node_fails, node_passes}
use Rattle.tcl_interp.proofs.limits.not_root.Goals as goal

pub returns-then-node : goal.returns-then-node
returns-then-node c = Interrupts-more c.denied.result _ _ (λ e f rest. node_fails c.args.tree.now c.args.place (λ n. n.root) interpreters.denied e rest (λ p n at is. sym (ap (λ (m : Node Own). m.root) (c.node.ensures p n at is)) ∙ c.if-node.true) f) c.denied.ensures

pub returns : goal.returns
returns c = λ rest. node_passes c.args.tree.now c.args.place (λ n. n.root) interpreters.denied rest (λ p n at is. sym (ap (λ (m : Node Own). m.root) (c.node.ensures p n at is)) ∙ c.if-node.false)
