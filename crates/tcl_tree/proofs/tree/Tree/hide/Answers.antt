use Rattle.std.proofs.Common.{inr, ◌++◌}
use Rattle.tcl_tree.proofs.CoreLemmas.{tree_there}
use Rattle.tcl_tree.proofs.FormLemmas.{first_asked}
use Rattle.std.proofs.lemmas.Result.{err_from_is_err_and}
use Rattle.tcl_tree.proofs.NamingLemmas.{refuses_at, always_ok, ok_map, err_map}
use Rattle.tcl_tree.proofs.tree.Tree.hide.Goals as goal

pub returns-clause-there : goal.returns-clause-there
returns-clause-there c = always_ok c.hide_at.result (tree_there c.args.self.now (c.args.path.now ++ c.args.down.now) _ c.in_ok-place.ensures.place)

pub returns-clause-moved : goal.returns-clause-moved
returns-clause-moved c = ok_map c.hide_at.result c.hide_at.ensures.moved (λ h. h (c.args.path.now ++ c.args.down.now) c.in_ok-place.ensures.place)

pub returns-clause-refused : goal.returns-clause-refused
returns-clause-refused c = err_map c.hide_at.result c.hide_at.ensures.refused (λ e h.
    inr (refuses_at c.args.self.now (c.args.path.now ++ c.args.down.now) _ c.in_ok-place.ensures.place _ e (h (c.args.path.now ++ c.args.down.now) c.in_ok-place.ensures.place)))

pub returns-in_err-place-clause-order : goal.returns-in_err-place-clause-order
returns-in_err-place-clause-order c =
    let p = err_from_is_err_and c.from_residual.result c.from_residual.ensures.1 in
    rw (p.1, p.2) (first_asked _ _ c.args.path.now c.args.down.now _ c.in_err-place.ensures.order)

pub returns-clause-order : goal.returns-clause-order
returns-clause-order c = err_map c.hide_at.result c.hide_at.ensures.refused (λ e h.
    inr (
      c.in_ok-place.ensures.trusted,
      refuses_at c.args.self.now (c.args.path.now ++ c.args.down.now) _ c.in_ok-place.ensures.place _ e (h (c.args.path.now ++ c.args.down.now) c.in_ok-place.ensures.place),
    ))
