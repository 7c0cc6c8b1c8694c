use Rattle.std.proofs.Common.{inl, inr, refl, sym}
use Rattle.std.proofs.lemmas.Result.{err_from_is_err_and}
use Rattle.tcl_tree.proofs.CoreLemmas.{tree_there}
use Rattle.tcl_tree.proofs.NamingLemmas.{refuses_at, always_ok, err_map, standing}
use Rattle.tcl_tree.proofs.tree.Tree.set_alias_past.Goals as goal

pub returns-clause-there : goal.returns-clause-there
returns-clause-there c = always_ok c.set_alias_at.result (tree_there c.args.self.now c.args.path.now _ c.in-Some.ensures.there)

pub returns-in_err-way-clause-refused : goal.returns-in_err-way-clause-refused
returns-in_err-way-clause-refused c =
    let p = err_from_is_err_and c.from_residual.result c.from_residual.ensures.1 in
    let w = standing c.args.self.now c.args.path.now _ c.in-Some.ensures.there in
    rw (p.1, p.2) (inr (w.0, w.1, inl refl))

pub returns-clause-refused : goal.returns-clause-refused
returns-clause-refused c = rw (sym c.in_ok-way.ensures) (err_map c.set_alias_at.result c.set_alias_at.ensures.refused (λ e h. refuses_at c.args.self.now c.args.path.now _ c.in-Some.ensures.there _ e (h c.args.path.now c.in-Some.ensures.there)))
