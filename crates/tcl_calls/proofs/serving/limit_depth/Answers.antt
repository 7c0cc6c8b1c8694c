use Rattle.std.proofs.Common.{◌∙◌, sym, ap}
use Rattle.tcl_core.specs.Trees.{Node}
use Rattle.tcl_tree.specs.Own.{Own}
use Rattle.tcl_calls.proofs.Served.{depth_denied}
use Rattle.tcl_calls.proofs.serving.limit_depth.Goals as goal

pub returns-then-node-clause-acts : goal.returns-then-node-clause-acts
returns-then-node-clause-acts c = depth_denied c.args.tree.now c.args.place c.args.limit c.denied.result (λ p n at is. sym (ap (λ (m : Node Own). m.root) (c.node.ensures p n at is)) ∙ c.if-node.true) c.denied.ensures
