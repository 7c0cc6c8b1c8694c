use Rattle.std.proofs.Common.{sym, ◌∙◌, ap}
use Rattle.std.specs.Option.{option_copied, option_and_then}
use Rattle.tcl_interpreter.specs.Own.{command_in}
use Rattle.tcl_tree.specs.Nodes.{NodeView}
use Rattle.tcl_tree.proofs.StepLemmas.{tree_some, tree_vacant}
use Rattle.tcl_tree.proofs.tree.Tree.command_near.Goals as goal

pub returns-in_err-node : goal.returns-in_err-node
returns-in_err-node c = λ p at.
    ap option_copied c.from_residual.ensures ∙ sym (ap (option_and_then (λ (n : NodeView). command_in n.own c.args.name.now)) (tree_vacant _ _ p _ at (sym c.in_err-node.ensures)))

pub returns : goal.returns
returns c = λ p at. c.found_near.ensures ∙ sym (ap (option_and_then (λ (n : NodeView). command_in n.own c.args.name.now)) (tree_some _ _ p _ _ at (sym c.in_ok-node.ensures)))
