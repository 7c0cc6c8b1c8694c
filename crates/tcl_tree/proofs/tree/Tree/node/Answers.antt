use Rattle.std.proofs.Common.{sym, ◌∙◌, ap}
use Rattle.std.specs.Option.{option_copied, option_map}
use Rattle.tcl_tree.specs.Nodes.{view_of}
use Rattle.tcl_tree.proofs.HeapLemmas.{tree-none, tree-at}
use Rattle.tcl_tree.proofs.tree.Tree.node.Goals as goal

pub returns-in_err-key : goal.returns-in_err-key
returns-in_err-key c = ap (λ o. option_map view_of (option_copied o)) c.from_residual.ensures ∙ sym (tree-none _ _ _ (sym c.in_err-key.ensures))

pub returns : goal.returns
returns c = ap (option_map view_of) c.get.ensures ∙ sym (tree-at _ _ _ _ (sym c.in_ok-key.ensures))
