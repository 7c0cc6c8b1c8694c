use Rattle.std.proofs.Common.{sym, ◌∙◌}
use Rattle.tcl_tree.proofs.HeapLemmas.{tree-none}
use Rattle.tcl_tree.proofs.CoreLemmas.{tree_there}
use Rattle.tcl_tree.proofs.CopyLemmas.{tree_along}
use Rattle.tcl_tree.proofs.tree.Tree.copy_at.Goals as goal

pub returns-in_default-clause-refused : goal.returns-in_default-clause-refused
returns-in_default-clause-refused c = tree-none _ _ _ (sym c.in_default.ensures)

pub subtable-requires : goal.subtable-requires
subtable-requires c = (c.args.path.now, sym c.in-Some.ensures)

pub invariant_of-result : goal.invariant_of-result
invariant_of-result c = record { sound = c.in_ok-nodes.ensures.sound; guarded = c.in_ok-nodes.ensures.guarded; ordered = c.in_ok-nodes.ensures.ordered }

pub returns-clause-there : goal.returns-clause-there
returns-clause-there c = tree_there c.args.self.now c.args.path.now _ (sym c.in-Some.ensures)

pub returns-clause-tree : goal.returns-clause-tree
returns-clause-tree c = λ i q. (c.in_ok-nodes.ensures.same q ∙ sym (tree_along _ _ _ c.args.path.now q (sym c.in-Some.ensures))) i
