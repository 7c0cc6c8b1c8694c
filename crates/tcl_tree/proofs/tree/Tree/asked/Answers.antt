use Rattle.std.proofs.Common.{refl, sym, inr}
use Rattle.tcl_tree.proofs.HeapLemmas.{tree-none}
use Rattle.tcl_tree.proofs.tree.Tree.asked.Goals as goal

pub returns-in-Some-clause-place : goal.returns-in-Some-clause-place
returns-in-Some-clause-place c = sym (c.in-Some.ensures c.args.path.now c.in_ok-asking.ensures.key)

pub returns-in-None-clause-refused : goal.returns-in-None-clause-refused
returns-in-None-clause-refused c = inr (refl, tree-none _ _ _ (sym (c.in-None.ensures c.args.path.now c.in_ok-asking.ensures.key)))

pub returns-in-None-clause-order : goal.returns-in-None-clause-order
returns-in-None-clause-order c = inr (c.in_ok-asking.ensures.trusted, (refl, tree-none _ _ _ (sym (c.in-None.ensures c.args.path.now c.in_ok-asking.ensures.key))))
