use Rattle.std.proofs.Common.{sym}
use Rattle.slab.specs.Slab.{get}
use Rattle.tcl_tree.proofs.HeapLemmas.{then_none, tree-none}
use Rattle.tcl_tree.proofs.NamingLemmas.{ok_map, err_map}
use Rattle.tcl_tree.proofs.tree.Tree.delete.Goals as goal

pub returns-clause-there : goal.returns-clause-there
returns-clause-there c = ok_map c.delete_at.result c.delete_at.ensures.there (λ h. h c.args.path.now (sym c.in-Some.ensures))

pub returns-clause-parts : goal.returns-clause-parts
returns-clause-parts c = ok_map c.delete_at.result c.delete_at.ensures.parts (λ h. h c.args.path.now (sym c.in-Some.ensures))

pub returns-clause-dropped : goal.returns-clause-dropped
returns-clause-dropped c = ok_map c.delete_at.result c.delete_at.ensures.dropped (λ h. h c.args.path.now (sym c.in-Some.ensures))

pub returns-clause-refused : goal.returns-clause-refused
returns-clause-refused c = err_map c.delete_at.result c.delete_at.ensures.refused (λ e h. h c.args.path.now (sym c.in-Some.ensures))

pub returns-clause-keys : goal.returns-clause-keys
returns-clause-keys c = c.delete_at.ensures.keys c.args.path.now (sym c.in-Some.ensures)

pub returns-in_default-clause-refused : goal.returns-in_default-clause-refused
returns-in_default-clause-refused c = tree-none _ _ _ (then_none (get c.args.self.now.nodes) _ c.args.path.now c.args.name.now (sym c.in_default.ensures))
