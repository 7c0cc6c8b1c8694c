use Rattle.tcl_tree.proofs.CoreLemmas.{tree_there}
use Rattle.tcl_tree.proofs.NamingLemmas.{refuses_there, always_ok, err_map}
use Rattle.tcl_tree.proofs.tree.Tree.clear_alias.Goals as goal

pub returns-clause-there : goal.returns-clause-there
returns-clause-there c = always_ok c.clear_alias_at.result (tree_there c.args.self.now c.args.path.now _ c.in-Some.ensures.there)

pub returns-clause-refused : goal.returns-clause-refused
returns-clause-refused c = err_map c.clear_alias_at.result c.clear_alias_at.ensures.refused (λ e h. refuses_there c.args.self.now c.args.path.now _ c.in-Some.ensures.there _ e (h c.args.path.now c.in-Some.ensures.there))
