use Rattle.std.proofs.Common.{sym, ◌∙◌}
use Rattle.tcl_tree.proofs.StepLemmas.{follow_end, follow_vacant, follow_absent, follow_down}
use Rattle.tcl_tree.proofs.tree.Tree.find.Goals as goal

pub returns-in_err-node : goal.returns-in_err-node
returns-in_err-node c =
    c.from_residual.ensures ∙ sym (c.loop-name.invariant ∙ follow_vacant _ _ _ _ c.name-item.result c.loop-name-test.true c.name-item.is c.in_err-node.ensures)

pub returns-in_err-key : goal.returns-in_err-key
returns-in_err-key c =
    c.from_residual-in_err-key.ensures ∙ sym (c.loop-name.invariant ∙ follow_absent _ _ _ _ c.name-item.result _ c.loop-name-test.true c.name-item.is c.in_ok-node.ensures c.in_err-key.ensures.value)

pub loop-name-preserved : goal.loop-name-preserved
loop-name-preserved c =
    c.loop-name.invariant ∙ follow_down _ _ _ _ c.name-item.result _ _ c.loop-name-test.true c.name-item.is c.in_ok-node.ensures c.in_ok-key.ensures.value

pub returns : goal.returns
returns c = sym (c.loop-name.invariant ∙ follow_end _ _ _ _ c.loop-name-test.false)
