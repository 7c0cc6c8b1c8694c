use Rattle.std.proofs.Common.{sym, ◌∙◌, ap}
use Rattle.std.specs.Option.{option_and_then}
use Rattle.tcl_interpreter.proofs.PlainLemmas.{plain_found}
use Rattle.tcl_interpreter.specs.Own.{command_in}
use Rattle.tcl_tree.specs.Nodes.{NodeView}
use Rattle.tcl_tree.proofs.StepLemmas.{tree_some}
use Rattle.tcl_tree.proofs.tree.Tree.command_kept.Goals as goal

pub returns-clause-plain : goal.returns-clause-plain
returns-clause-plain c = plain_found c.in_ok-node.node.now.state.commands.entries c.args.name.now _ (c.in_ok-node.node.now.state.plain c.if-not-node.false) c.in_ok-command.ensures

pub returns-clause-command : goal.returns-clause-command
returns-clause-command c = λ p at. sym c.in_ok-command.ensures ∙ sym (ap (option_and_then (λ (n : NodeView). command_in n.own c.args.name.now)) (tree_some _ _ p _ _ at (sym c.in_ok-node.ensures)))
