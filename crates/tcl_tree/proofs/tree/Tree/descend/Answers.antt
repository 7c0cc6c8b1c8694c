use Rattle.std.proofs.Common.{sym, ◌∙◌, ap}
use Rattle.slab.specs.Slab.{get}
use Rattle.std.specs.Option.{option_and_then}
use Rattle.tcl_tree.specs.Nodes.{follow}
use Rattle.tcl_tree.proofs.StepLemmas.{follow_end, follow_vacant, follow_absent, follow_down, follow_append}
use Rattle.tcl_tree.proofs.tree.Tree.descend.Goals as goal

pub names-init : goal.names-init
names-init c = λ p lead. follow_append (get c.args.self.now.nodes) p c.args.down.now c.args.self.now.root ∙ ap (option_and_then (λ k. follow (get c.args.self.now.nodes) k c.args.down.now)) lead

pub returns-in_err-node : goal.returns-in_err-node
returns-in_err-node c = λ p lead.
    c.from_residual.ensures ∙ sym (c.names.invariant p lead ∙ follow_vacant _ _ _ _ c.name-item.result c.names-test.true c.name-item.is c.in_err-node.ensures)

pub returns-in_err-at : goal.returns-in_err-at
returns-in_err-at c = λ p lead.
    c.from_residual-in_err-at.ensures ∙ sym (c.names.invariant p lead ∙ follow_absent _ _ _ _ c.name-item.result _ c.names-test.true c.name-item.is c.in_ok-node.ensures c.in_err-at.ensures.value)

pub names-preserved : goal.names-preserved
names-preserved c = λ p lead.
    c.names.invariant p lead ∙ follow_down _ _ _ _ c.name-item.result _ _ c.names-test.true c.name-item.is c.in_ok-node.ensures c.in_ok-at.ensures.value

pub returns : goal.returns
returns c = λ p lead. sym (c.names.invariant p lead ∙ follow_end _ _ _ _ c.names-test.false)
