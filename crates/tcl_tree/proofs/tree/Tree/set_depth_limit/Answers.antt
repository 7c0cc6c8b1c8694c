use Rattle.std.proofs.Common.{sym, inr, ◌++◌}
use Rattle.std.proofs.lemmas.Result.{err_from_is_err_and}
use Rattle.tcl_tree.proofs.HeapLemmas.{tree-none}
use Rattle.tcl_tree.proofs.NamingLemmas.{ok_map, err_map}
use Rattle.tcl_tree.proofs.FormLemmas.{deepen_refused, untrusted_depth, first_depth, first_deepen}
use Rattle.tcl_tree.proofs.tree.Tree.set_depth_limit.Goals as goal

pub returns-in_err-asking-clause-refused : goal.returns-in_err-asking-clause-refused
returns-in_err-asking-clause-refused c =
    let p = err_from_is_err_and c.from_residual.result c.from_residual.ensures.1 in
    rw (p.1, p.2) (untrusted_depth _ _ c.args.path.now c.args.down.now c.args.limit c.in_err-asking.ensures.refused)

pub returns-in_default-clause-refused : goal.returns-in_default-clause-refused
returns-in_default-clause-refused c = inr (tree-none _ _ _ (sym (c.in_default.ensures c.args.path.now c.in_ok-asking.ensures.key)))

pub set_depth_limit_at-requires : goal.set_depth_limit_at-requires
set_depth_limit_at-requires c = (c.args.path.now ++ c.args.down.now, sym (c.in-Some.ensures c.args.path.now c.in_ok-asking.ensures.key))

pub returns-clause-may : goal.returns-clause-may
returns-clause-may c = ok_map c.set_depth_limit_at.result c.set_depth_limit_at.ensures.may (λ h. record {
  asker = c.in_ok-asking.ensures.trusted.asker;
  here = c.in_ok-asking.ensures.trusted.here;
  trusted = c.in_ok-asking.ensures.trusted.trusted;
  target = h (c.args.path.now ++ c.args.down.now) (sym (c.in-Some.ensures c.args.path.now c.in_ok-asking.ensures.key));
})

pub returns-clause-limited : goal.returns-clause-limited
returns-clause-limited c = ok_map c.set_depth_limit_at.result c.set_depth_limit_at.ensures.limited (λ h. h (c.args.path.now ++ c.args.down.now) (sym (c.in-Some.ensures c.args.path.now c.in_ok-asking.ensures.key)))

pub returns-clause-refused : goal.returns-clause-refused
returns-clause-refused c = err_map c.set_depth_limit_at.result c.set_depth_limit_at.ensures.refused (λ e h.
    deepen_refused e _ c.args.path.now c.args.down.now c.args.limit (h (c.args.path.now ++ c.args.down.now) (sym (c.in-Some.ensures c.args.path.now c.in_ok-asking.ensures.key))))

pub returns-in_err-asking-clause-order : goal.returns-in_err-asking-clause-order
returns-in_err-asking-clause-order c =
    let p = err_from_is_err_and c.from_residual.result c.from_residual.ensures.1 in
    rw (p.1, p.2) (first_depth _ _ c.args.path.now c.args.down.now c.args.limit c.in_err-asking.ensures.refused)

pub returns-in_default-clause-order : goal.returns-in_default-clause-order
returns-in_default-clause-order c = inr (c.in_ok-asking.ensures.trusted, tree-none _ _ _ (sym (c.in_default.ensures c.args.path.now c.in_ok-asking.ensures.key)))

pub returns-clause-order : goal.returns-clause-order
returns-clause-order c = err_map c.set_depth_limit_at.result c.set_depth_limit_at.ensures.order (λ e h.
    first_deepen e _ c.args.path.now c.args.down.now c.args.limit c.in_ok-asking.ensures.trusted (h (c.args.path.now ++ c.args.down.now) (sym (c.in-Some.ensures c.args.path.now c.in_ok-asking.ensures.key))))
