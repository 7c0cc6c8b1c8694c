use Rattle.std.proofs.Common.{refl, sym, inl, inr}
use Rattle.tcl_tree.specs.Nodes.{view_of}
use Rattle.tcl_tree.proofs.HeapLemmas.{tree-none}
use Rattle.tcl_tree.proofs.StepLemmas.{tree_some, leads_somewhere}
use Rattle.tcl_tree.proofs.tree.Tree.asker.Goals as goal

pub returns-in_default-clause-refused : goal.returns-in_default-clause-refused
returns-in_default-clause-refused c = inl (refl, tree-none _ _ _ (sym c.in_default.ensures))

pub returns-in_default-get-clause-refused : goal.returns-in_default-get-clause-refused
returns-in_default-get-clause-refused c = absurd (leads_somewhere _ _ c.args.self.now.sound _ _ (sym c.in-Some.ensures) (sym c.in_default-get.ensures))

pub returns-then-asker-clause-refused : goal.returns-then-asker-clause-refused
returns-then-asker-clause-refused c = inr (refl, view_of c.in-Some-get.asker.now, tree_some _ _ _ _ _ (sym c.in-Some.ensures) (sym c.in-Some-get.ensures), c.if-asker.true)

pub returns-clause-trusted : goal.returns-clause-trusted
returns-clause-trusted c = record {
  asker = view_of c.in-Some-get.asker.now;
  here = tree_some _ _ _ _ _ (sym c.in-Some.ensures) (sym c.in-Some-get.ensures);
  trusted = c.if-asker.false;
}
