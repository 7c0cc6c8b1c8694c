use Rattle.tcl_tree.proofs.HeapLemmas.{follow-nil}
use Rattle.tcl_tree.proofs.tree.Tree.root.Goals as goal

pub returns : goal.returns
returns c = follow-nil _ _
