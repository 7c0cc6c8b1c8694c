use Rattle.std.proofs.Common.{sym, ◌∙◌, ap}
use Rattle.std.specs.Option.{option_map}
use Rattle.tcl_tree.specs.Nodes.{view_of}
use Rattle.tcl_tree.proofs.HeapLemmas.{tree-at}
use Rattle.tcl_tree.proofs.tree.Tree.node_at.Goals as goal

pub returns : goal.returns
returns c = λ p at. ap (option_map view_of) c.get.ensures ∙ sym (tree-at _ _ p _ at)
