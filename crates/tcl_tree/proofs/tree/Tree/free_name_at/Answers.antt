use Rattle.std.proofs.Common.{sym, ◌∙◌, subst}
use Rattle.std.proofs.lemmas.Option.{same_Some}
use Rattle.tcl_tree.specs.Changes.{IsFirstFree}
use Rattle.tcl_tree.specs.Nodes.{NodeView}
use Rattle.tcl_tree.proofs.StepLemmas.{tree_some, leads_somewhere}
use Rattle.tcl_tree.proofs.NamingLemmas.{if_ok_map}
use Rattle.tcl_tree.proofs.tree.Tree.free_name_at.Goals as goal

pub unreachable-requires : goal.unreachable-requires
unreachable-requires c = leads_somewhere _ _ c.args.self.now.sound _ _ c.requires.1 (sym c.in-None.ensures)

pub returns : goal.returns
returns c = record {
  free = if_ok_map c.first_free.result c.first_free.ensures.free (λ name h p v at here.
      subst (λ (u : NodeView). IsFirstFree u.own.commands name) (same_Some _ _ (sym (tree_some _ _ p _ _ at (sym c.in-Some.ensures)) ∙ here)) h);
}
