use Rattle.std.proofs.Common.{sym}
use Rattle.tcl_tree.proofs.HeapLemmas.{tree-none}
use Rattle.tcl_tree.proofs.tree.Tree.reach.Goals as goal

pub returns-in-None : goal.returns-in-None
returns-in-None c = λ p at.
    let w = c.in-Some.ensures.there p at in
    (w.0, w.1, tree-none _ _ _ (sym (c.in-None.ensures w.0 w.2)))
