use Rattle.tcl_tree.proofs.NamingLemmas.{ok_map, err_map}
use Rattle.tcl_tree.proofs.tree.Tree.create.Goals as goal

pub returns-clause-may : goal.returns-clause-may
returns-clause-may c = ok_map c.create_at.result c.create_at.ensures.may (λ h. h c.args.path.now c.in-Some.ensures.there)

pub returns-clause-made : goal.returns-clause-made
returns-clause-made c = ok_map c.create_at.result c.create_at.ensures.made (λ h. h c.args.path.now c.in-Some.ensures.there)

pub returns-clause-refused : goal.returns-clause-refused
returns-clause-refused c = err_map c.create_at.result c.create_at.ensures.refused (λ e h. h c.args.path.now c.in-Some.ensures.there)
