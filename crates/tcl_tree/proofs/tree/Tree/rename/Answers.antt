use Rattle.std.proofs.Common.{sym, ap, ◌∙◌}
use Rattle.std.specs.Prelude.{◌==◌, length}
use Rattle.tcl_tree.specs.TreeOf.{tree_of}
use Rattle.tcl_tree.proofs.CoreLemmas.{tree_there}
use Rattle.tcl_tree.proofs.NamingLemmas.{refuses_at, always_ok, err_map}
use Rattle.tcl_tree.proofs.RenamingLemmas.{refuses_other, refuses_none}
use Rattle.tcl_tree.proofs.tree.Tree.rename.Goals as goal

pub returns-then-not-is_empty-clause-there : goal.returns-then-not-is_empty-clause-there
returns-then-not-is_empty-clause-there c = always_ok c.rename_at.result (tree_there c.args.self.now c.args.path.now _ c.in-Some.ensures.there)

pub returns-then-not-is_empty-clause-refused : goal.returns-then-not-is_empty-clause-refused
returns-then-not-is_empty-clause-refused c = err_map c.rename_at.result c.rename_at.ensures.refused (λ e h.
    refuses_other c.args.new_name _ (c.is_empty.ensures ∙ ap (λ m. length m == 0) c.as_str.ensures) c.if-not-is_empty.true e (tree_of c.args.self.now) c.args.path.now c.args.name.now
    (refuses_at c.args.self.now c.args.path.now _ c.in-Some.ensures.there _ e (h c.args.path.now c.in-Some.ensures.there)))

pub returns-clause-there : goal.returns-clause-there
returns-clause-there c = always_ok c.remove_at.result (tree_there c.args.self.now c.args.path.now _ c.in-Some.ensures.there)

pub returns-clause-refused : goal.returns-clause-refused
returns-clause-refused c = err_map c.remove_at.result c.remove_at.ensures.refused (λ e h.
    refuses_none c.args.new_name _ (c.is_empty.ensures ∙ ap (λ m. length m == 0) c.as_str.ensures) c.if-not-is_empty.false e c.args.self.now c.args.path.now _ c.in-Some.ensures.there c.args.name.now _
    (c.command_at.ensures c.args.path.now c.in-Some.ensures.there) (sym c.is_child.ensures ∙ c.if-is_child.false) (h c.args.path.now c.in-Some.ensures.there))
